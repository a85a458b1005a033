-- The order of a node's choices, by their numbers. The choices of a child, of which a line has the one that picks it, are joined with those of the children after it
-- (`choices`): in any-of the earlier child's come first, in all-of the later children's change faster.
use Rattle.std.specs.Prelude.{◌≡◌, refl, List, [], ◌∷◌, ◌++◌, map, ℕ, zero, suc, ◌+◌, ◌*◌, ◌<◌, length, get_or}
use Rattle.std.proofs.Common.{ap, ◌∙◌, arith, get_or-append-add}
use Rattle.std.proofs.lemmas.List.{length-map}
use Rattle.std.proofs.Math.ListN.{get_or-append}
use Rattle.tree_reading.specs.declared.Kind.TheVariants.{AllOf, AnyOf}
use Rattle.tree_reading.specs.Choices.{pairs, joined}

pub earlier_first : (xs ys : List (List ℕ)) (i : ℕ) → i < length xs → get_or (joined AnyOf xs ys) i [] ≡ get_or xs i []
earlier_first xs ys i h = get_or-append xs ys [] i h

pub later_behind : (xs ys : List (List ℕ)) (j : ℕ) → get_or (joined AnyOf xs ys) (length xs + j) [] ≡ get_or ys j []
later_behind xs ys j = get_or-append-add xs ys j []

-- number j of these, each with x in front
number_map : (x : List ℕ) (ys : List (List ℕ)) (j : ℕ) → j < length ys → get_or (map (λ (y : List ℕ). x ++ y) ys) j [] ≡ x ++ get_or ys j []
number_map x [] j h = absurd (omega arith)
number_map x (y ∷ ys) zero h = refl
number_map x (y ∷ ys) (suc j) h = number_map x ys j (omega arith)

pub last_fastest : (xs ys : List (List ℕ)) (i j : ℕ) → i < length xs → j < length ys → get_or (joined AllOf xs ys) (i * length ys + j) [] ≡ get_or xs i [] ++ get_or ys j []
last_fastest [] ys i j h k = absurd (omega arith)
last_fastest (x ∷ xs) ys zero j h k =
    let first : List (List ℕ) = map (λ (y : List ℕ). x ++ y) ys in
    let size : length first ≡ length ys = length-map ys (λ (y : List ℕ). x ++ y) in
    let e : zero * length ys + j ≡ j = omega arith in
    ap (λ (p : ℕ). get_or (first ++ pairs xs ys) p []) e ∙ get_or-append first (pairs xs ys) [] j (omega (arith, size)) ∙ number_map x ys j k
last_fastest (x ∷ xs) ys (suc i) j h k =
    let first : List (List ℕ) = map (λ (y : List ℕ). x ++ y) ys in
    let size : length first ≡ length ys = length-map ys (λ (y : List ℕ). x ++ y) in
    let e : suc i * length ys + j ≡ length first + (i * length ys + j) = omega (arith, size) in
    ap (λ (p : ℕ). get_or (first ++ pairs xs ys) p []) e ∙ get_or-append-add first (pairs xs ys) (i * length ys + j) [] ∙ last_fastest xs ys i j (omega arith) k
