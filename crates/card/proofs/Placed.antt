-- Octets written one after the other are written at once.
use Rattle.std.proofs.Common.{◌≡◌, ℕ, ◌+◌, ◌≤◌, List, ◌++◌, length, take, drop, sym, refl, ap, ◌∙◌, ap₂, arith, length-append, append-nil}
use borrow.Rule.Slice.PartMut.{put_mid}
use Rattle.std.proofs.lemmas.List.{append_assoc, drop-drop, drop_all}
use Rattle.std.proofs.lemmas.Slice.{take-put_mid, drop-put_mid}
use Rattle.card.specs.Placing.{placed}

pub placed_mid : (out : List ℕ) (at k : ℕ) (octets : List ℕ) → k ≡ length octets → put_mid at k out octets ≡ placed out at octets
placed_mid out at k octets e = ap (λ l. take at out ++ (octets ++ l)) (drop-drop k at out ∙ ap (λ n. drop (at + n) out) e)

pub placed_more : (out : List ℕ) (at : ℕ) (xs ys : List ℕ) → at + length xs ≤ length out → placed (placed out at xs) (at + length xs) ys ≡ placed out at (xs ++ ys)
placed_more out at xs ys fits =
    let n = length xs in
    let mid : put_mid at n out xs ≡ placed out at xs = placed_mid out at n xs refl in
    let front : take (at + n) (placed out at xs) ≡ take at out ++ xs = ap (take (at + n)) (sym mid) ∙ take-put_mid at n out xs (at + n) refl (omega arith) in
    let back : drop (at + n + length ys) (placed out at xs) ≡ drop (at + n + length ys) out = ap (drop (at + n + length ys)) (sym mid) ∙ drop-put_mid at n out xs (at + n + length ys) (omega arith) (omega arith) refl in
    let long : at + n + length ys ≡ at + length (xs ++ ys) = omega (arith, length-append xs ys) in
    ap₂ (λ f b. f ++ (ys ++ b)) front (back ∙ ap (λ k. drop k out) long)
    ∙ append_assoc (take at out) xs (ys ++ drop (at + length (xs ++ ys)) out)
    ∙ ap (λ l. take at out ++ l) (sym (append_assoc xs ys (drop (at + length (xs ++ ys)) out)))

-- octets fill a part of as many
pub placed_whole : (part octets : List ℕ) → length part ≡ length octets → placed part 0 octets ≡ octets
placed_whole part octets e = ap (λ l. octets ++ l) (drop_all (0 + length octets) part (omega arith)) ∙ append-nil octets

-- three parts, the last with what is behind it, are one
pub three_parts : (out head near far : List ℕ) → head ++ (near ++ placed (drop (length near) (drop (length head) out)) 0 far) ≡ (head ++ (near ++ far)) ++ drop (length (head ++ (near ++ far))) out
three_parts out head near far =
    let parts = length-append head (near ++ far) in
    let back = length-append near far in
    let behind : drop (0 + length far) (drop (length near) (drop (length head) out)) ≡ drop (length (head ++ (near ++ far))) out =
    drop-drop (0 + length far) (length near) (drop (length head) out) ∙ drop-drop (length near + (0 + length far)) (length head) out ∙ ap (λ n. drop n out) (omega arith) in
    let rest = drop (length (head ++ (near ++ far))) out in
    let same : head ++ (near ++ (far ++ rest)) ≡ (head ++ (near ++ far)) ++ rest = simp append_assoc in
    ap (λ l. head ++ (near ++ (far ++ l))) behind ∙ same
