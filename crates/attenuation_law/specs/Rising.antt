-- Sendings grow over a link, and more before it are no fewer after it.
use Rattle.std.specs.Prelude.{ℕ, ◌+◌, ◌-◌, ◌*◌, ◌<◌, ◌≤◌}
use Rattle.std.proofs.Common.{arith}
use Rattle.std.proofs.lemmas.Nat.{div-add-mod', le-div, mul-le}
use Rattle.attenuation_law.specs.Sendings.{sendings}

pub sendings_rise : (c lost : ℕ) → lost ≤ 255 → c < sendings c lost
sendings_rise c lost h =
    let fewer = mul-le (c + 1) (256 - lost) (c + 1) 256 (omega arith) (omega arith) in
    omega (arith, le-div (c + 1) ((c + 1) * 256) (256 - lost) (omega arith) fewer)

pub sendings_order : (a b lost : ℕ) → lost ≤ 255 → a ≤ b → sendings a lost ≤ sendings b lost
sendings_order a b lost h le =
    let whole = div-add-mod' ((a + 1) * 256) (256 - lost) in
    le-div (sendings a lost) ((b + 1) * 256) (256 - lost) (omega arith) (omega arith)
