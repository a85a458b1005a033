-- What a rearrangement is, in another way: each line stands in both lists equally often.
use Rattle.std.specs.Prelude.{◌≡◌, refl, ◌↔◌, Bool, true, false, cond, ◌&&◌, List, [], ◌∷◌, ℕ, ◌+◌, ◌<◌, ℤ}
use Rattle.std.proofs.Common.{sym, ap, subst, ◌∙◌, append-nil, arith}
use Rattle.integers.specs.Integer.{eq_z}
use Rattle.integers.specs.Laws.{and_true, both_true, eq_eq_z, eq_z_true, never}
use Rattle.lines.specs.declared.Line.{Line}
use Rattle.lines.specs.Line.{line_numbers_lem, line_of}
use Rattle.lines.specs.LineNumbers.{line_of_numbers}
use Rattle.theory_order.specs.Rearranged.{Rearranged, unchanged, swapped, behind, further, turned_back}

-- ---- two lines are one if all their numbers are the same
abbrev pub same_numbers : List ℤ → List ℤ → Bool
same_numbers [] [] = true
same_numbers [] (z ∷ M) = false
same_numbers (y ∷ L) [] = false
same_numbers (y ∷ L) (z ∷ M) = eq_z y z && same_numbers L M

abbrev pub same_line : Line → Line → Bool
same_line l m = same_numbers (line_numbers_lem l) (line_numbers_lem m)

numbers_same : (L M : List ℤ) → same_numbers L M ≡ true → L ≡ M
numbers_same [] [] e = refl
numbers_same [] (z ∷ M) e = never (cc)
numbers_same (y ∷ L) [] e = never (cc)
numbers_same (y ∷ L) (z ∷ M) e =
    let p = and_true (eq_z y z) (same_numbers L M) e in
    ap (λ (x : ℤ). x ∷ L) (eq_z_true y z p.0) ∙ ap (λ (N : List ℤ). z ∷ N) (numbers_same L M p.1)

same_itself : (L : List ℤ) → same_numbers L L ≡ true
same_itself [] = refl
same_itself (z ∷ L) = both_true (eq_z z z) (same_numbers L L) (eq_eq_z z z refl) (same_itself L)

lines_same : (l m : Line) → same_line l m ≡ true → l ≡ m
lines_same l m e = sym (back l) ∙ ap line_of (numbers_same (line_numbers_lem l) (line_numbers_lem m) e) ∙ back m
  where
    back : (k : Line) → line_of (line_numbers_lem k) ≡ k
    back k = ap line_of (sym (append-nil (line_numbers_lem k))) ∙ line_of_numbers k []

-- ---- how often l stands among the lines
abbrev pub occurrences : Line → List Line → ℕ
occurrences l [] = 0
occurrences l (m ∷ ls) = cond (same_line l m) 1 0 + occurrences l ls

as_often : {ls ms : List Line} → Rearranged ls ms → (l : Line) → occurrences l ls ≡ occurrences l ms
as_often unchanged l = refl
as_often swapped l = omega arith
as_often (behind {l = k} p) l = ap (λ (i : ℕ). cond (same_line l k) 1 0 + i) (as_often p l)
as_often (further p q) l = as_often p l ∙ as_often q l

-- a line that occurs can be brought to the front
record InFront (l : Line) (ms : List Line) : Type 0 where
  rest : List Line
  moved : Rearranged ms (l ∷ rest)

in_front : (l : Line) (ms : List Line) → 0 < occurrences l ms → InFront l ms
in_front l [] h = absurd (omega arith)
in_front l (m ∷ ms) h = go (same_line l m) refl h (in_front l ms)
  where
    go : (t : Bool) → same_line l m ≡ t → 0 < cond t 1 0 + occurrences l ms → (0 < occurrences l ms → InFront l ms) → InFront l (m ∷ ms)
    go true e h later = record { rest = ms; moved = subst (λ (k : Line). Rearranged (m ∷ ms) (k ∷ ms)) (sym (lines_same l m e)) unchanged }
    go false e h later = let r = later (omega arith) in record { rest = m ∷ r.rest; moved = further (behind r.moved) swapped }

once : (l : Line) → ◌≡◌ {A = ℕ} (cond (same_line l l) 1 0) 1
once l = ap (λ (t : Bool). cond t 1 0) (same_itself (line_numbers_lem l))

rearranged : (ls ms : List Line) → ((l : Line) → occurrences l ls ≡ occurrences l ms) → Rearranged ls ms
rearranged [] [] h = unchanged
rearranged [] (m ∷ ms) h = absurd (omega (arith, h m, once m))
rearranged (l ∷ ls) ms h =
    let f = in_front l ms (omega (arith, h l, once l)) in
    further (behind (rearranged ls f.rest (λ k. omega (arith, h k, as_often f.moved k)))) (turned_back f.moved)

-- so a rearrangement is no more and no less than that
pub rearranged_as_often : (ls ms : List Line) → Rearranged ls ms ↔ ((l : Line) → occurrences l ls ≡ occurrences l ms)
rearranged_as_often ls ms = (as_often, rearranged ls ms)
