-- Reading a line goes from each octet or blank to what follows it.
use Rattle.std.proofs.Common.{◌≡◌, ℕ, ◌≤◌, false, List, [], ◌∷◌, ◌++◌, length, drop, Some, None, Option, sym, refl, ap, ◌∙◌, arith}
use Rattle.std.proofs.lemmas.List.{append_assoc}
use Rattle.std.specs.Option.{option_map}
use Rattle.field.specs.Wide.{at}
use Rattle.capture.specs.Hexadecimal.{blank, digit, octet, led_by, spelt}

-- octets that were read, before those that are left
abbrev pub ahead : List ℕ → Option (List ℕ) → Option (List ℕ)
ahead before left = option_map (λ (l : List ℕ). before ++ l) left

pub spelt_more : (xs : List ℕ) → 2 ≤ length xs → blank (at xs 0) ≡ false → spelt xs ≡ led_by (octet (digit (at xs 0)) (digit (at xs 1))) (spelt (drop 2 xs))
spelt_more [] h b = absurd (omega arith)
spelt_more (c ∷ []) h b = absurd (omega arith)
spelt_more (c ∷ d ∷ rest) h b = rw b

pub led_ahead : (before : List ℕ) (o : ℕ) (left : Option (List ℕ)) → ahead before (led_by (Some o) left) ≡ ahead (before ++ o ∷ []) left
led_ahead before o (Some l) = ap Some (sym (append_assoc before (o ∷ []) l))
led_ahead before o None = refl

-- ---- a turn of the loop at an octet

module _ (xs acc : List ℕ) (line : Option (List ℕ)) (two : 2 ≤ length xs) (word : blank (at xs 0) ≡ false) (so_far : ahead acc (spelt xs) ≡ line) where
  pub octet_turn : (o : ℕ) (acc' rest : List ℕ) → Some o ≡ octet (digit (at xs 0)) (digit (at xs 1)) → acc' ≡ acc ++ o ∷ [] → rest ≡ drop 2 xs → ahead acc' (spelt rest) ≡ line
  octet_turn o acc' rest is pushed cut =
      ap (λ l. ahead l (spelt rest)) pushed
      ∙ ap (λ l. ahead (acc ++ o ∷ []) (spelt l)) cut
      ∙ sym (led_ahead acc o (spelt (drop 2 xs)))
      ∙ ap (λ p. ahead acc (led_by p (spelt (drop 2 xs)))) is
      ∙ ap (ahead acc) (sym (spelt_more xs two word))
      ∙ so_far
