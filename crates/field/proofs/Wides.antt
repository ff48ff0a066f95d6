-- Numbers of two and of four octets: what is written is read, and what is read is written.
use Rattle.std.proofs.Common.{◌≡◌, ℕ, zero, suc, ◌+◌, ◌*◌, ◌/◌, ◌%◌, ◌<◌, ◌≤◌, List, [], ◌∷◌, length, take, drop, refl, ap, ◌∙◌, ap₂, arith, drop-cons}
use Rattle.field.specs.Wide.{numbers, at, wide, wides, wide_at, long, long_at}

-- what is written is read
pub numbers_wides : (ns : List ℕ) → numbers (wides ns) ≡ ns
numbers_wides [] = refl
numbers_wides (n ∷ ns) =
    let head : n / 256 * 256 + n % 256 ≡ n = omega arith in
    let tail = numbers_wides ns in
    cc

pub length_wides : (ns : List ℕ) → length (wides ns) ≡ 2 * length ns
length_wides [] = refl
length_wides (n ∷ ns) = omega (arith, length_wides ns)

-- each is below 256
abbrev pub Octets : List ℕ → Type 0
Octets xs = (i : ℕ) → at xs i < 256

pub octets_take : (n : ℕ) (xs : List ℕ) → Octets xs → Octets (take n xs)
octets_take zero xs f i = omega arith
octets_take (suc n) [] f i = omega arith
octets_take (suc n) (x ∷ xs) f zero = f 0
octets_take (suc n) (x ∷ xs) f (suc i) = octets_take n xs (λ j. f (suc j)) i

pub octets_drop : (n : ℕ) (xs : List ℕ) → Octets xs → Octets (drop n xs)
octets_drop zero xs f i = f i
octets_drop (suc n) [] f i = omega arith
octets_drop (suc n) (x ∷ xs) f i = octets_drop n xs (λ j. f (suc j)) i

pub first_two : (xs : List ℕ) → 2 ≤ length xs → xs ≡ at xs 0 ∷ at xs 1 ∷ drop 2 xs
first_two [] h = absurd (omega arith)
first_two (a ∷ []) h = absurd (omega arith)
first_two (a ∷ b ∷ rest) h = refl

-- n numbers stand in twice as many octets, and are written as those
pub wides_numbers : (n : ℕ) (xs : List ℕ) → length xs ≡ 2 * n → Octets xs → wides (numbers xs) ≡ xs
wides_numbers zero [] h f = refl
wides_numbers zero (a ∷ rest) h f = absurd (omega arith)
wides_numbers (suc n) [] h f = refl
wides_numbers (suc n) (a ∷ []) h f = absurd (omega arith)
wides_numbers (suc n) (a ∷ b ∷ rest) h f =
    let low = f 1 in
    let high : (a * 256 + b) / 256 ≡ a = omega arith in
    let less : (a * 256 + b) % 256 ≡ b = omega arith in
    let tail = wides_numbers n rest (omega arith) (λ i. f (suc (suc i))) in
    cc

pub length_numbers : (n : ℕ) (xs : List ℕ) → length xs ≡ 2 * n → length (numbers xs) ≡ n
length_numbers zero [] h = refl
length_numbers zero (a ∷ rest) h = absurd (omega arith)
length_numbers (suc n) [] h = omega arith
length_numbers (suc n) (a ∷ []) h = absurd (omega arith)
length_numbers (suc n) (a ∷ b ∷ rest) h = omega (arith, length_numbers n rest (omega arith))

pub wide_to : (n high low : ℕ) (more : List ℕ) {rest : List ℕ} → n ≡ high * 256 + low → low < 256 → more ≡ rest → wide n more ≡ high ∷ low ∷ rest
wide_to n high low more e small same =
    let a : n / 256 ≡ high = omega arith in
    let b : n % 256 ≡ low = omega arith in
    cc

-- n octets from place i on, and what follows them
abbrev pub places : ℕ → ℕ → List ℕ → List ℕ
places i zero xs = drop i xs
places i (suc n) xs = at xs i ∷ places (suc i) n xs

pub by_places : (n i : ℕ) (xs : List ℕ) → i + n ≤ length xs → drop i xs ≡ places i n xs
by_places zero i xs h = refl
by_places (suc n) i xs h = drop-cons xs i 0 (omega arith) ∙ ap (λ l. at xs i ∷ l) (by_places n (suc i) xs (omega arith))

module _ (xs : List ℕ) (octets : Octets xs) where
  pub wide_places : (i : ℕ) (more : List ℕ) {rest : List ℕ} → more ≡ rest → wide (wide_at xs i) more ≡ at xs i ∷ at xs (i + 1) ∷ rest
  wide_places i more same = wide_to (wide_at xs i) (at xs i) (at xs (i + 1)) more refl (octets (i + 1)) same

  pub long_places : (i : ℕ) (more : List ℕ) {rest : List ℕ} → more ≡ rest → long (long_at xs i) more ≡ at xs i ∷ at xs (i + 1) ∷ at xs (i + 2) ∷ at xs (i + 2 + 1) ∷ rest
  long_places i more same =
      let a = octets (i + 1) in
      let b = octets (i + 2) in
      let c = octets (i + 2 + 1) in
      let high : long_at xs i / 65536 ≡ wide_at xs i = omega arith in
      let low : long_at xs i % 65536 ≡ wide_at xs (i + 2) = omega arith in
      ap₂ (λ h l. wide h (wide l more)) high low ∙ wide_places i _ (wide_places (i + 2) more same)
