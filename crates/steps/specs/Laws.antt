-- What the code and its callers use of a line's step: when there is one, that its ends are right, and that its weight is small.
use Rattle.std.specs.Prelude.{◌≡◌, refl, Bool, true, false, not, cond, List, [], ◌∷◌, ◌++◌, ℕ, zero, suc, ◌+◌, ◌*◌, ◌/◌, ◌%◌, ◌<◌, T, eqb, ltb, ℤ, pos, ◌*ℤ◌, length, get_or, None, Some}
use Rattle.std.proofs.Common.{sym, subst, arith, lt-ltb, ltb-true, eq-eqb, ne_eqb}
use Rattle.integers.specs.Integer.{Within}
use Rattle.integers.proofs.Linear.{ints, zs, given₂}
use Rattle.integers.specs.Laws.{never, and_true}
use Rattle.lines.specs.declared.Line.{Line}
use Rattle.lines.specs.Limits.{line_size, work_constant}
use Rattle.lines.specs.Line.{line_numbers_lem, line_at, line_count}
use Rattle.lines.specs.Bare.{bare}
use Rattle.lines.specs.Valid.{VariableOk, LineWorks}
use Rattle.lines.specs.LineNumbers.{count_append, line_left}
use Rattle.steps.specs.declared.Step.{Step}
use Rattle.steps.specs.Table.{entry, cell, digit, is_end, CellRule, rule_at, digit_lt}
use Rattle.steps.specs.Step.{heaviest, max_weight, variable_at, step_with, step_of, step_numbered_lem, NamedOk}
use Rattle.steps.specs.Walk.{Names}

module _ (l : Line) (side : ℕ) where
  abbrev c : ℕ
  c = cell l.a l.b side

  pub step_none : entry (c + 2) ≡ 0 → None ≡ step_of l side
  unfolding step_of
  step_none e = rw (eq-eqb (entry (c + 2)) 0 e)

  pub step_found : (entry (c + 2) ≡ 0 → ⊥) → Some (step_with l c) ≡ step_of l side
  unfolding step_of
  step_found n = rw (ne_eqb (entry (c + 2)) 0 n)

  -- the rule of the table, at this line and side
  pub line_rule : side < 2 → CellRule (digit l.a) (digit l.b) c
  line_rule h = rule_at (digit l.a) (digit l.b) side (digit_lt l.a) (digit_lt l.b) h

-- ---- an end of a step is a variable that the rules allow
not_zero : (z : ℤ) → not (eqb (digit z) 1) ≡ true → z ≡ pos 0 → ⊥
unfolding digit
not_zero z t e = subst T (sym (subst (λ (y : ℤ). not (eqb (digit y) 1) ≡ true) e t)) tt

pub end_ok : (n : ℕ) (l : Line) → LineWorks n l → (e : ℕ) → is_end (digit l.a) (digit l.b) e ≡ true → VariableOk n (variable_at l e)
end_ok n l ok e t = go (ltb e 2) (and_true (ltb e 4) _ t).1
  where
    go : (b : Bool) → not (eqb (cond b (digit l.a) (digit l.b)) 1) ≡ true → VariableOk n (cond b l.x l.y)
    go true u = ok.variable_x (not_zero l.a u)
    go false u = ok.variable_y (not_zero l.b u)

-- ---- a step's weight is within its limit
weight_within : (most k : ℕ) (d : ℤ) → k < 3 → Within most d → Within (heaviest most) (pos k *ℤ d)
weight_within most zero d h w = record { low = simp ints (omega zs); high = simp ints (omega zs) }
weight_within most (suc zero) d h w = record { low = given₂ w.low w.high (simp ints (omega arith)); high = given₂ w.low w.high (simp ints (omega arith)) }
weight_within most (suc (suc zero)) d h w = record { low = given₂ w.low w.high (simp ints (omega arith)); high = given₂ w.low w.high (simp ints (omega arith)) }
weight_within most (suc (suc (suc k))) d h w = absurd (omega arith)

found_is : {t u : Step} → Some t ≡ Some u → t ≡ u
found_is e = cc

-- no step looks at the identifier of its line
pub step_blind : (side : ℕ) (l : Line) → step_of (bare l) side ≡ step_of l side
unfolding step_of bare line_numbers_lem
step_blind side l = refl

line_weight_within : (most : ℕ) (l : Line) (side : ℕ) (t : Step) → Within most l.d → side < 2 → step_of l side ≡ Some t → Within (heaviest most) t.weight
unfolding step_of
line_weight_within most l side t w h e = go (eqb (entry (c l side + 2)) 0) e
  where
    go : (b : Bool) → cond b None (Some (step_with l (c l side))) ≡ Some t → Within (heaviest most) t.weight
    go true q = never (cc)
    go false q = subst (λ (u : Step). Within (heaviest most) u.weight) (found_is q) (weight_within most (entry (c l side + 2)) l.d (line_rule l side h).factor w)

pub line_weight : (n : ℕ) (l : Line) (side : ℕ) (t : Step) → LineWorks n l → side < 2 → step_of l side ≡ Some t → Within max_weight t.weight
line_weight n l side t ok = line_weight_within work_constant l side t ok.constant

-- where the d of the line that the number names is within some limit
pub numbered_within : (most : ℕ) (L : List ℤ) (k : ℕ) (t : Step) → (k / 2 < line_count L → Within most (line_at L (k / 2)).d) → step_numbered_lem L k ≡ Some t → Within (heaviest most) t.weight
unfolding step_numbered_lem
numbered_within most L k t w e = go (ltb (k / 2) (line_count L)) refl e
  where
    go : (b : Bool) → ltb (k / 2) (line_count L) ≡ b → cond b (step_of (line_at L (k / 2)) (k % 2)) None ≡ Some t → Within (heaviest most) t.weight
    go true i q = line_weight_within most (line_at L (k / 2)) (k % 2) t (w (ltb-true _ _ i)) (omega arith) q
    go false i q = never (cc)

pub numbered_weight : (n : ℕ) (L : List ℤ) (k : ℕ) (t : Step) → NamedOk n L k → step_numbered_lem L k ≡ Some t → Within max_weight t.weight
numbered_weight n L k t ok = numbered_within work_constant L k t (λ h. (ok h).constant)

-- ---- a longer list names the same steps by the same numbers
pub numbered_longer : (L M : List ℤ) (k : ℕ) (t : Step) → length L % line_size ≡ 0 → step_numbered_lem L k ≡ Some t → step_numbered_lem (L ++ M) k ≡ Some t
unfolding step_numbered_lem
numbered_longer L M k t whole e = go (ltb (k / 2) (line_count L)) refl e
  where
    go : (b : Bool) → ltb (k / 2) (line_count L) ≡ b → cond b (step_of (line_at L (k / 2)) (k % 2)) None ≡ Some t
        → cond (ltb (k / 2) (line_count (L ++ M))) (step_of (line_at (L ++ M) (k / 2)) (k % 2)) None ≡ Some t
    go true i q =
        let h : k / 2 < line_count L = ltb-true _ _ i in
        let h' : k / 2 < line_count (L ++ M) = omega (arith, count_append L M whole) in
        rw (lt-ltb _ _ h', line_left L M whole (k / 2) h) q
    go false i q = never (cc)

-- ---- the step with a number
-- it is the step of a side of one of the list's lines
pub from_line : (L : List ℤ) (k : ℕ) (t : Step) → step_numbered_lem L k ≡ Some t → (k / 2 < line_count L) × (step_of (line_at L (k / 2)) (k % 2) ≡ Some t)
unfolding step_numbered_lem
from_line L k t e = go (ltb (k / 2) (line_count L)) refl e
  where
    go : (b : Bool) → ltb (k / 2) (line_count L) ≡ b → cond b (step_of (line_at L (k / 2)) (k % 2)) None ≡ Some t → (k / 2 < line_count L) × (step_of (line_at L (k / 2)) (k % 2) ≡ Some t)
    go true i q = (ltb-true _ _ i, q)
    go false i q = never (cc)

pub number_below : (L : List ℤ) (k : ℕ) (t : Step) → step_numbered_lem L k ≡ Some t → k < 2 * line_count L
number_below L k t e = omega (arith, (from_line L k t e).0)

-- every number that names a step is below twice the number of lines
pub names_below : (L : List ℤ) (ks : List ℕ) (ts : List Step) → Names L ks ts → (i : ℕ) → i < length ks → get_or ks i 0 < 2 * line_count L
names_below L [] ts a i h = absurd (omega arith)
names_below L (k ∷ ks) [] a i h = absurd a
names_below L (k ∷ ks) (t ∷ ts) a zero h = number_below L k t a.0
names_below L (k ∷ ks) (t ∷ ts) a (suc i) h = names_below L ks ts a.1 i (omega arith)
