-- A line's steps are mirrored: with p to q of weight w also the opposite of q to the opposite of p, of the same weight; and their points.
use Rattle.std.specs.Prelude.{◌≡◌, refl, ◌⊎◌, Bool, true, false, cond, ◌&&◌, ◌||◌, ℕ, zero, suc, ◌+◌, ◌*◌, ◌-◌, ◌/◌, ◌%◌, ◌<◌, ◌≤◌, eqb, ltb, pos, nat_abs, ◌*ℤ◌, None, Some}
use Rattle.std.proofs.Common.{sym, ap, subst, ◌∙◌, inl, inr, ⊎_elim, arith, ltb-true, ltb-false, eqb-true}
use Rattle.std.proofs.lemmas.Bool.{eqb-false}
use Rattle.integers.specs.Laws.{never, and_true}
use Rattle.integers.specs.Table.{all_below, below_at}
use Rattle.lines.specs.declared.Line.{Line}
use Rattle.lines.specs.Valid.{VariableOk, variable_lt, LineWorks}
use Rattle.steps.specs.declared.Step.{Step}
use Rattle.steps.specs.Point.{point, opposite}
use Rattle.steps.specs.Table.{entry, cell, digit, digit_lt}
use Rattle.steps.specs.Step.{variable_at, end_point_lem, step_with, step_of}
use Rattle.steps.specs.Mirror.{LineStep}
use Rattle.steps.specs.Laws.{step_found, line_rule, end_ok}

-- ---- in the table
-- cell j is the mirror of cell i
abbrev is_mirror : ℕ → ℕ → Bool
is_mirror i j =
    eqb (entry (3 * j)) (opposite (entry (3 * i + 1)))
    && (eqb (entry (3 * j + 1)) (opposite (entry (3 * i))) && eqb (entry (3 * j + 2)) (entry (3 * i + 2)))

-- a cell with a step has its mirror among its pair's two
abbrev has_mirror : ℕ → Bool
has_mirror i = eqb (entry (3 * i + 2)) 0 || (is_mirror i (2 * (i / 2) + 0) || is_mirror i (2 * (i / 2) + 1))

all_mirrored : all_below 18 has_mirror ≡ true
unfolding entry opposite
all_mirrored = refl

record MirrorCell (a b : ℕ) (from to : ℕ) : Type 0 where
  starts : entry to ≡ opposite (entry (from + 1))
  ends : entry (to + 1) ≡ opposite (entry from)
  factor : entry (to + 2) ≡ entry (from + 2)

or_cases : (a b : Bool) → (a || b) ≡ true → (a ≡ true) ⊎ (b ≡ true)
or_cases true b e = inl refl
or_cases false b e = inr e

cell_mirror : (i j a b : ℕ) → is_mirror i j ≡ true → MirrorCell a b (3 * i) (3 * j)
cell_mirror i j a b e =
    let p = and_true (eqb (entry (3 * j)) (opposite (entry (3 * i + 1)))) _ e in
    let q = and_true (eqb (entry (3 * j + 1)) (opposite (entry (3 * i)))) _ p.1 in
    record { starts = eqb-true _ _ p.0; ends = eqb-true _ _ q.0; factor = eqb-true _ _ q.1 }

-- the mirror of a side is a side
record MirrorSide (a b side : ℕ) : Type 0 where
  other : ℕ
  low : other < 2
  mirror : MirrorCell a b (6 * (3 * a + b) + 3 * side) (6 * (3 * a + b) + 3 * other)

mirror_side : (a b side : ℕ) → a < 3 → b < 3 → side < 2 → (entry (6 * (3 * a + b) + 3 * side + 2) ≡ 0 → ⊥) → MirrorSide a b side
mirror_side a b side ha hb hs n =
    let i : ℕ = 2 * (3 * a + b) + side in
    let at : 6 * (3 * a + b) + 3 * side ≡ 3 * i = omega arith in
    let t : has_mirror i ≡ true = below_at 18 has_mirror all_mirrored i (omega arith) in
    let u = ⊎_elim (λ z. absurd (n (ap (λ (k : ℕ). entry (k + 2)) at ∙ eqb-true _ _ z))) (λ z. z) (or_cases (eqb (entry (3 * i + 2)) 0) _ t) in
    ⊎_elim (λ z. at_side 0 at (omega arith) (omega arith) z) (λ z. at_side 1 at (omega arith) (omega arith) z) (or_cases (is_mirror i (2 * (i / 2) + 0)) _ u)
  where
    at_side : (o : ℕ) → 6 * (3 * a + b) + 3 * side ≡ 3 * (2 * (3 * a + b) + side) → o < 2 → 6 * (3 * a + b) + 3 * o ≡ 3 * (2 * ((2 * (3 * a + b) + side) / 2) + o) → is_mirror (2 * (3 * a + b) + side) (2 * ((2 * (3 * a + b) + side) / 2) + o) ≡ true → MirrorSide a b side
    at_side o at h to e = record { other = o; low = h; mirror = rw (at, to) (cell_mirror (2 * (3 * a + b) + side) (2 * ((2 * (3 * a + b) + side) / 2) + o) a b e) }

-- ---- of a line
-- the opposite end is of the same variable, and its point is opposite
opposite_end : (l : Line) (e : ℕ) → end_point_lem l (opposite e) ≡ opposite (end_point_lem l e)
unfolding opposite
opposite_end l e = go (ltb e 2) refl (ltb ((e + 1) - 2 * (e % 2)) 2) refl
  where
    sign : (x : ℕ) → 2 * x + ((e + 1) - 2 * (e % 2)) % 2 ≡ (2 * x + e % 2 + 1) - 2 * ((2 * x + e % 2) % 2)
    sign x = by (e % 2) refl
      where
        by : (r : ℕ) → e % 2 ≡ r → 2 * x + ((e + 1) - 2 * (e % 2)) % 2 ≡ (2 * x + e % 2 + 1) - 2 * ((2 * x + e % 2) % 2)
        by zero q =
            let o : ((e + 1) - 2 * 0) % 2 ≡ 1 = omega arith in
            let w : (2 * x + 0) % 2 ≡ 0 = omega arith in
            let a : ((e + 1) - 2 * (e % 2)) % 2 ≡ 1 = rw q o in
            let b : (2 * x + e % 2) % 2 ≡ 0 = rw q w in
            omega arith
        by (suc zero) q =
            let o : ((e + 1) - 2 * 1) % 2 ≡ 0 = omega arith in
            let w : (2 * x + 1) % 2 ≡ 1 = omega arith in
            let a : ((e + 1) - 2 * (e % 2)) % 2 ≡ 0 = rw q o in
            let b : (2 * x + e % 2) % 2 ≡ 1 = rw q w in
            omega arith
        by (suc (suc r)) q = absurd (omega arith)

    go : (t : Bool) → ltb e 2 ≡ t → (u : Bool) → ltb ((e + 1) - 2 * (e % 2)) 2 ≡ u
        → point (nat_abs (cond u l.x l.y)) (((e + 1) - 2 * (e % 2)) % 2) ≡ (point (nat_abs (cond t l.x l.y)) (e % 2) + 1) - 2 * (point (nat_abs (cond t l.x l.y)) (e % 2) % 2)
    go true a true b = sign (nat_abs l.x)
    go true a false b = let h = ltb-true e 2 a in let k : 2 ≤ (e + 1) - 2 * (e % 2) = ltb-false _ 2 b in absurd (omega arith)
    go false a true b = let h = ltb-false e 2 a in let k : (e + 1) - 2 * (e % 2) < 2 = ltb-true _ 2 b in absurd (omega arith)
    go false a false b = sign (nat_abs l.y)

point_lt : (n : ℕ) (l : Line) (e : ℕ) → VariableOk n (variable_at l e) → end_point_lem l e < 2 * n
point_lt n l e h = omega (arith, variable_lt n (variable_at l e) h)

with_step : (n : ℕ) (l : Line) (side : ℕ) → LineWorks n l → side < 2 → (entry (cell l.a l.b side + 2) ≡ 0 → ⊥) → LineStep n l (step_with l (cell l.a l.b side))
with_step n l side ok h f =
    let e = cell l.a l.b side in
    let r = line_rule l side h in
    let m = mirror_side (digit l.a) (digit l.b) side (digit_lt l.a) (digit_lt l.b) h f in
    let o = cell l.a l.b m.other in
    record {
      from_lt = point_lt n l (entry e) (end_ok n l ok (entry e) (r.start f));
      to_lt = point_lt n l (entry (e + 1)) (end_ok n l ok (entry (e + 1)) (r.end f));
      side = m.other;
      low = m.low;
      mirror = step_with l o;
      found = sym (step_found l m.other (λ z. f (sym m.mirror.factor ∙ z)));
      from_is = ap (end_point_lem l) m.mirror.starts ∙ opposite_end l (entry (e + 1));
      to_is = ap (end_point_lem l) m.mirror.ends ∙ opposite_end l (entry e);
      weight_is = ap (λ (k : ℕ). pos k *ℤ l.d) m.mirror.factor;
    }

pub line_step_known : (n : ℕ) (l : Line) (side : ℕ) (t : Step) → LineWorks n l → side < 2 → step_of l side ≡ Some t → LineStep n l t
unfolding step_of
line_step_known n l side t ok h e = go (eqb (entry (cell l.a l.b side + 2)) 0) refl e
  where
    same : {s t : Step} → Some s ≡ Some t → s ≡ t
    same e = cc

    go : (b : Bool) → eqb (entry (cell l.a l.b side + 2)) 0 ≡ b → cond b None (Some (step_with l (cell l.a l.b side))) ≡ Some t → LineStep n l t
    go true z q = never (cc)
    go false z q = subst (LineStep n l) (same q) (with_step n l side ok h (eqb-false _ 0 z))
