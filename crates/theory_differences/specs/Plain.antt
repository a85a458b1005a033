-- Differences: lines with one coefficient 1 and one -1. Such a line is one step over the variables themselves, its plain step; the two steps of the
-- line are that step's copy between plus points, and the copy's mirror image between minus points.
use Rattle.std.specs.Prelude.{◌≡◌, refl, ◌⊎◌, Bool, true, false, cond, ◌&&◌, ◌||◌, List, [], ◌∷◌, ℕ, zero, suc, ◌<◌, ℤ, pos, negsuc, nat_abs, ◌*ℤ◌, Some}
use Rattle.std.proofs.Common.{sym, ap, subst, ◌∙◌, inl, inr, arith}
use Rattle.integers.specs.Integer.{eq_z}
use Rattle.integers.proofs.Linear.{ints}
use Rattle.integers.specs.Laws.{and_true, eq_z_true, ne_eq_z}
use Rattle.integers.specs.Table.{all_below, below_at}
use Rattle.lines.specs.declared.Line.{Line}
use Rattle.lines.specs.Line.{line_at, line_count, lines_of, is_false_lem}
use Rattle.lines.specs.Valid.{AllOk}
use Rattle.steps.specs.declared.Step.{Step}
use Rattle.steps.specs.Point.{point}
use Rattle.steps.specs.Table.{entry, digit}
use Rattle.steps.specs.Step.{max_weight, step_of, steps_of}
use Rattle.theory_walks.specs.Row.{In, WithinPoints}
use Rattle.theory_walks.specs.Size.{WithinWeights}
use Rattle.theory_walks.specs.Graph.{At, Source, source, member, at_line, ends_points, weights_small}
use Rattle.theory_bounds.specs.Verdict.{has_false}

-- one coefficient 1 and one -1, in either order
abbrev pub one_each_lem : ℤ → ℤ → Bool
one_each_lem a b = (eq_z a (pos 1) && eq_z b (negsuc 0)) || (eq_z a (negsuc 0) && eq_z b (pos 1))

abbrev pub is_difference_lem : Line → Bool
is_difference_lem l = one_each_lem l.a l.b

-- the same, as what it says
pub data Difference (l : Line) : Type 0 where
  forward : l.a ≡ pos 1 → l.b ≡ negsuc 0 → Difference l
  backward : l.a ≡ negsuc 0 → l.b ≡ pos 1 → Difference l

pub difference : (l : Line) → is_difference_lem l ≡ true → Difference l
difference l e = go (eq_z l.a (pos 1) && eq_z l.b (negsuc 0)) refl e
  where
    go : (t : Bool) → (eq_z l.a (pos 1) && eq_z l.b (negsuc 0)) ≡ t → (t || (eq_z l.a (negsuc 0) && eq_z l.b (pos 1))) ≡ true → Difference l
    go true q r = let p = and_true (eq_z l.a (pos 1)) _ q in forward (eq_z_true _ _ p.0) (eq_z_true _ _ p.1)
    go false q r = let p = and_true (eq_z l.a (negsuc 0)) _ r in backward (eq_z_true _ _ p.0) (eq_z_true _ _ p.1)

pub is_difference : (l : Line) → Difference l → is_difference_lem l ≡ true
is_difference l (forward e f) = rw (e, f)
is_difference l (backward e f) = rw (e, f)

-- the ways through the test
module _ (a b : ℤ) where
  pub one_first : a ≡ pos 1 → eq_z b (negsuc 0) ≡ one_each_lem a b
  one_first e = rw e (either (eq_z b (negsuc 0)))
    where
      either : (t : Bool) → t ≡ (t || false)
      either true = refl
      either false = refl

  pub one_second : a ≡ negsuc 0 → eq_z b (pos 1) ≡ one_each_lem a b
  one_second e = rw e

  pub one_neither : (a ≡ pos 1 → ⊥) → (a ≡ negsuc 0 → ⊥) → false ≡ one_each_lem a b
  one_neither m n = rw (ne_eq_z a (pos 1) m, ne_eq_z a (negsuc 0) n)

-- every line is one
abbrev pub Differences : List Line → Type 0
Differences ls = (k : ℕ) (l : Line) → At ls k l → Difference l

-- the same of a list of numbers, computed
unfoldable pub all_differences : List ℤ → Bool
all_differences L = all_below (line_count L) (λ k. is_difference_lem (line_at L k))

pub differences : (L : List ℤ) → all_differences L ≡ true → Differences (lines_of L)
unfolding all_differences
differences L e k l a =
    let i = at_line L k l a in
    subst Difference i.1 (difference (line_at L k) (below_at (line_count L) (λ j. is_difference_lem (line_at L j)) e k i.0))

-- ---- plain steps
-- x - y ≤ d is a step from x to y of weight d, and -x + y ≤ d one from y to x
unfoldable pub plain_step_lem : Line → Step
plain_step_lem l =
    cond (eq_z l.a (pos 1)) (record { from = nat_abs l.x; to = nat_abs l.y; weight = l.d })
    (record { from = nat_abs l.y; to = nat_abs l.x; weight = l.d })

unfoldable pub plain_steps : List Line → List Step
plain_steps [] = []
plain_steps (l ∷ ls) = plain_step_lem l ∷ plain_steps ls

-- a step between variables, between their plus points
abbrev pub plus : Step → Step
plus p = record { from = point p.from 0; to = point p.to 0; weight = p.weight }

-- and, mirrored, between their minus points
abbrev pub minus : Step → Step
minus p = record { from = point p.to 1; to = point p.from 1; weight = p.weight }

-- the two steps of a line: the plus copy has side 0 where x has the coefficient 1, and else side 1
unfoldable pub plain_side : Line → ℕ
plain_side l = cond (eq_z l.a (pos 1)) 0 1

abbrev Copies : Line → ℕ → ℕ → Type 0
Copies l a b = (step_of l a ≡ Some (plus (plain_step_lem l))) × (step_of l b ≡ Some (minus (plain_step_lem l)))

once : (d : ℤ) → pos 1 *ℤ d ≡ d
once d = simp ints (omega arith)

line_copies : (l : Line) → Difference l → Copies l 0 1 ⊎ Copies l 1 0
unfolding step_of entry digit plain_step_lem
line_copies l (forward e f) = inl ((rw (e, f, once l.d)), (rw (e, f, once l.d)))
line_copies l (backward e f) = inr ((rw (e, f, once l.d)), (rw (e, f, once l.d)))

pub plain_side_law : (l : Line) → Difference l → (plain_side l < 2) × (step_of l (plain_side l) ≡ Some (plus (plain_step_lem l)))
unfolding plain_side step_of entry digit plain_step_lem
plain_side_law l (forward e f) = (rw e (omega arith), rw (e, f, once l.d))
plain_side_law l (backward e f) = (rw e (omega arith), rw (e, f, once l.d))

-- a plain step by the line's first coefficient
pub plain_forward : (l : Line) → l.a ≡ pos 1 → (plain_step_lem l ≡ record { from = nat_abs l.x; to = nat_abs l.y; weight = l.d }) × (plain_side l ≡ 0)
unfolding plain_step_lem plain_side
plain_forward l e = (rw e, rw e)

pub plain_backward : (l : Line) → (l.a ≡ pos 1 → ⊥) → (plain_step_lem l ≡ record { from = nat_abs l.y; to = nat_abs l.x; weight = l.d }) × (plain_side l ≡ 1)
unfolding plain_step_lem plain_side
plain_backward l n = (rw (ne_eq_z l.a (pos 1) n), rw (ne_eq_z l.a (pos 1) n))

-- ---- members
pub record PlainSource (ls : List Line) (p : Step) : Type 0 where
  pub number : ℕ
  pub line : Line
  pub at : At ls number line
  pub is : p ≡ plain_step_lem line

pub plain_source : (ls : List Line) (p : Step) → In p (plain_steps ls) → PlainSource ls p
unfolding plain_steps
plain_source [] p i = absurd i
plain_source (l ∷ ls) p (inl e) = record { number = 0; line = l; at = refl; is = e }
plain_source (l ∷ ls) p (inr i) = let s = plain_source ls p i in record { number = suc s.number; line = s.line; at = s.at; is = s.is }

pub plain_member : (ls : List Line) (k : ℕ) (l : Line) → At ls k l → In (plain_step_lem l) (plain_steps ls)
unfolding plain_steps
plain_member [] k l a = absurd a
plain_member (x ∷ ls) zero l a = inl (ap plain_step_lem (sym a))
plain_member (x ∷ ls) (suc k) l a = inr (plain_member ls k l a)

-- t is a copy of p
abbrev pub Copy : Step → Step → Type 0
Copy p t = (t ≡ plus p) ⊎ (t ≡ minus p)

same : {s t : Step} → Some s ≡ Some t → s ≡ t
same e = cc

module _ (ls : List Line) (ds : Differences ls) where
  -- every step is a copy of a plain step
  pub step_copy : (t : Step) → In t (steps_of ls) → (p : Step) × In p (plain_steps ls) × Copy p t
  step_copy t i = let s = source ls t i in (plain_step_lem s.line, plain_member ls s.number s.line s.at, copy s)
    where
      by : (l : Line) (side : ℕ) → side < 2 → step_of l side ≡ Some t → Copies l 0 1 ⊎ Copies l 1 0 → Copy (plain_step_lem l) t
      by l zero h e (inl c) = inl (same (sym e ∙ c.0))
      by l zero h e (inr c) = inr (same (sym e ∙ c.1))
      by l (suc zero) h e (inl c) = inr (same (sym e ∙ c.1))
      by l (suc zero) h e (inr c) = inl (same (sym e ∙ c.0))
      by l (suc (suc side)) h e c = absurd (omega arith)

      copy : (s : Source ls t) → Copy (plain_step_lem s.line) t
      copy s = by s.line s.side s.low s.found (line_copies s.line (ds s.number s.line s.at))

  -- the plus copy of a plain step is a step
  pub plus_in : (p : Step) → In p (plain_steps ls) → In (plus p) (steps_of ls)
  plus_in p i =
      let s = plain_source ls p i in
      let c = plain_side_law s.line (ds s.number s.line s.at) in
      subst (λ (x : Step). In (plus x) (steps_of ls)) (sym s.is) (member ls _ s.number s.line s.at (plain_side s.line) c.0 c.1)

  -- the ends of plain steps are variables, and their weights are small
  module _ (n : ℕ) (ok : AllOk n ls) where
    pub plain_within : WithinPoints n (plain_steps ls)
    plain_within p i = let w = ends_points n ls ok (plus p) (plus_in p i) in (omega (arith, w.0), omega (arith, w.1))

    pub plain_weights : WithinWeights max_weight (plain_steps ls)
    plain_weights p i = weights_small n ls ok (plus p) (plus_in p i)

-- ---- no difference is a false line
not_false : (l : Line) → Difference l → is_false_lem l ≡ false
unfolding is_false_lem
not_false l (forward e f) = rw e
not_false l (backward e f) = rw e

pub none_false : (ls : List Line) → Differences ls → has_false ls ≡ false
unfolding has_false
none_false [] ds = refl
none_false (l ∷ ls) ds = rw (not_false l (ds 0 l refl)) (none_false ls (λ k m a. ds (suc k) m a))
