-- The front of an output that has room for what is written.
use Rattle.std.proofs.Common.{◌≡◌, ℕ, ◌≤◌, List, length, take, drop, Ok, Err, Result, sym, ap, ◌∙◌, arith}
use Rattle.std.proofs.lemmas.List.{take_at}
use Rattle.std.specs.Result.{result_unwrap_or}
use Rattle.frame.specs.Writing.{Writes}
use Rattle.frame.specs.declared.faults.WriteFault.{WriteFault}
use Rattle.frame.specs.declared.faults.WriteFault.TheVariants.{OutputTooShort}

pub front : (new before now : List ℕ) (n : ℕ) (r : Result ℕ WriteFault) → Writes new before now r → length new ≤ length before → n ≡ result_unwrap_or r 0 → take n now ≡ new
front new before now n (Ok len) w h is = ap (take n) w.2 ∙ take_at new (drop (length new) before) n (sym (is ∙ w.0))
front new before now n (Err OutputTooShort) w h is = absurd (omega (arith, w.0))
