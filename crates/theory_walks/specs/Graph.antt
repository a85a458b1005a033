-- The steps of a list's lines as one list: where each comes from, that it is mirrored and its ends are points, and that assignments solve the
-- lines exactly if every step holds and no line is false.
use Rattle.std.specs.Prelude.{◌≡◌, ◌⊎◌, Bool, List, [], ◌∷◌, ◌++◌, ℕ, zero, suc, ◌+◌, ◌*◌, ◌/◌, ◌%◌, ◌<◌, ℤ, pos, length, None, Option, Some}
use Rattle.std.proofs.Math.Path.{refl}
use Rattle.std.proofs.Common.{sym, ap, subst, ◌∙◌, inl, inr, ⊎_elim, not-suc-le-zero}
use Rattle.std.proofs.Math.Bool.{true, false, cond}
use native.Mathlib.Omega.{arith}
use borrow.Author.Tests.{lt-ltb, ltb-true}
use Rattle.std.proofs.Math.Dec.{ltb}
use Rattle.std.specs.Int.Signed.{lt_z}
use Rattle.integers.specs.Integer.{◌⩽◌, Within}
use Rattle.integers.proofs.Linear.{ints}
use Rattle.integers.specs.Laws.{never, both_true}
use Rattle.integers.specs.Sequence.{tabulate}
use Rattle.lines.specs.declared.Line.{Line}
use Rattle.lines.specs.Line.{Assignment, Meets, Solves, lines_of, line_at, line_count, is_zero, is_false_lem}
use Rattle.lines.specs.Valid.{LineWorks, AllOk}
use Rattle.steps.specs.declared.Step.{Step}
use Rattle.steps.specs.Step.{max_weight, step_of, step_numbered_lem, steps_of, named, Says, Holds}
use Rattle.steps.specs.Laws.{line_weight}
use Rattle.steps.specs.Mirror.{LineStep}
use Rattle.steps.proofs.Mirror.{line_step_known}
use Rattle.steps.proofs.Meaning.{meets_holds, line_steps}
use Rattle.steps.specs.Walk.{Names}
use Rattle.theory_walks.specs.Row.{In, WithinPoints}
use Rattle.theory_walks.specs.Reach.{Steps}
use Rattle.theory_walks.specs.Mirror.{mirror, Mirrored}

-- ---- lines by their numbers
-- line number k of the lines is l
abbrev pub At : List Line → ℕ → Line → Type 0
At [] k l = ⊥
At (x ∷ ls) zero l = x ≡ l
At (x ∷ ls) (suc k) l = At ls k l

at_tabulate : (n : ℕ) (f : ℕ → Line) (k : ℕ) (l : Line) → At (tabulate n f) k l → (k < n) × (f k ≡ l)
at_tabulate zero f k l a = absurd a
at_tabulate (suc n) f zero l a = (omega arith, a)
at_tabulate (suc n) f (suc k) l a = let r = at_tabulate n (λ i. f (suc i)) k l a in (omega arith, r.1)

tabulate_at : (n : ℕ) (f : ℕ → Line) (k : ℕ) → k < n → At (tabulate n f) k (f k)
tabulate_at zero f k h = absurd (not-suc-le-zero h)
tabulate_at (suc n) f zero h = refl
tabulate_at (suc n) f (suc k) h = tabulate_at n (λ i. f (suc i)) k (omega arith)

-- line number k of a list is its k-th
pub at_line : (L : List ℤ) (k : ℕ) (l : Line) → At (lines_of L) k l → (k < line_count L) × (line_at L k ≡ l)
at_line L k l a = at_tabulate (line_count L) (line_at L) k l a

pub line_at_law : (L : List ℤ) (k : ℕ) → k < line_count L → At (lines_of L) k (line_at L k)
line_at_law L k h = tabulate_at (line_count L) (line_at L) k h

pub solves_line : (ls : List Line) (s : Assignment) (k : ℕ) (l : Line) → Solves ls s → At ls k l → Meets s l
solves_line [] s k l h a = absurd a
solves_line (x ∷ ls) s zero l h a = subst (Meets s) a h.0
solves_line (x ∷ ls) s (suc k) l h a = solves_line ls s k l h.1 a

pub lines_solve : (ls : List Line) (s : Assignment) → ((k : ℕ) (l : Line) → At ls k l → Meets s l) → Solves ls s
lines_solve [] s h = tt
lines_solve (x ∷ ls) s h = (h 0 x refl, lines_solve ls s (λ k l a. h (suc k) l a))

-- ---- where a step comes from
pub record Source (ls : List Line) (t : Step) : Type 0 where
  pub number : ℕ
  pub line : Line
  pub at : At ls number line
  pub side : ℕ
  pub low : side < 2
  pub found : step_of line side ≡ Some t

in_append : (t : Step) (xs ys : List Step) → In t (xs ++ ys) → In t xs ⊎ In t ys
in_append t [] ys i = inr i
in_append t (x ∷ xs) ys (inl e) = inl (inl e)
in_append t (x ∷ xs) ys (inr i) = ⊎_elim (λ j. inl (inr j)) (λ j. inr j) (in_append t xs ys i)

pub in_left : (t : Step) (xs ys : List Step) → In t xs → In t (xs ++ ys)
in_left t [] ys i = absurd i
in_left t (x ∷ xs) ys (inl e) = inl e
in_left t (x ∷ xs) ys (inr i) = inr (in_left t xs ys i)

pub in_right : (t : Step) (xs ys : List Step) → In t ys → In t (xs ++ ys)
in_right t [] ys i = i
in_right t (x ∷ xs) ys i = inr (in_right t xs ys i)

in_named : (s : Option Step) (t : Step) → In t (named s) → s ≡ Some t
in_named (Some u) t (inl e) = ap Some (sym e)
in_named (Some u) t (inr i) = absurd i
in_named None t i = absurd i

named_in : (s : Option Step) (t : Step) → s ≡ Some t → In t (named s)
named_in s t e = subst (λ (x : Option Step). In t (named x)) (sym e) (inl refl)

later : {ls : List Line} {t : Step} (l : Line) → Source ls t → Source (l ∷ ls) t
later l s = record { number = suc s.number; line = s.line; at = s.at; side = s.side; low = s.low; found = s.found }

pub source : (ls : List Line) (t : Step) → In t (steps_of ls) → Source ls t
unfolding steps_of
source [] t i = absurd i
source (l ∷ ls) t i =
    ⊎_elim (λ j. record { number = 0; line = l; at = refl; side = 0; low = omega arith; found = in_named (step_of l 0) t j })
    (λ j.
    ⊎_elim (λ k. record { number = 0; line = l; at = refl; side = 1; low = omega arith; found = in_named (step_of l 1) t k })
    (λ k. later l (source ls t k))
    (in_append t (named (step_of l 1)) (steps_of ls) j))
    (in_append t (named (step_of l 0)) (named (step_of l 1) ++ steps_of ls) i)

pub member : (ls : List Line) (t : Step) (k : ℕ) (l : Line) → At ls k l → (side : ℕ) → side < 2 → step_of l side ≡ Some t → In t (steps_of ls)
unfolding steps_of
member [] t k l a side h e = absurd a
member (x ∷ ls) t zero l a zero h e = in_left t (named (step_of x 0)) _ (named_in (step_of x 0) t (ap (λ (y : Line). step_of y 0) a ∙ e))
member (x ∷ ls) t zero l a (suc zero) h e =
    in_right t (named (step_of x 0)) _ (in_left t (named (step_of x 1)) (steps_of ls) (named_in (step_of x 1) t (ap (λ (y : Line). step_of y 1) a ∙ e)))
member (x ∷ ls) t zero l a (suc (suc side)) h e = absurd (omega arith)
member (x ∷ ls) t (suc k) l a side h e = in_right t (named (step_of x 0)) _ (in_right t (named (step_of x 1)) (steps_of ls) (member ls t k l a side h e))

-- ---- of lines that obey the rules
ok_at : (n : ℕ) (ls : List Line) → AllOk n ls → (k : ℕ) (l : Line) → At ls k l → LineWorks n l
ok_at n [] ok k l a = absurd a
ok_at n (x ∷ ls) ok zero l a = subst (LineWorks n) a ok.0
ok_at n (x ∷ ls) ok (suc k) l a = ok_at n ls ok.1 k l a

false_is : (l : Line) → is_zero l ≡ true → lt_z l.d (pos 0) ≡ true → is_false_lem l ≡ true
unfolding is_false_lem
false_is l z e = both_true _ _ z e

module _ (n : ℕ) (ls : List Line) (all : AllOk n ls) where
  ok : (k : ℕ) (l : Line) → At ls k l → LineWorks n l
  ok k l a = ok_at n ls all k l a

  known : (t : Step) → In t (steps_of ls) → (s : Source ls t) × LineStep n s.line t
  known t i = let s = source ls t i in (s, line_step_known n s.line s.side t (ok s.number s.line s.at) s.low s.found)

  pub ends_points : WithinPoints (2 * n) (steps_of ls)
  ends_points t i = let k = known t i in (k.1.from_lt, k.1.to_lt)

  pub steps_mirrored : Mirrored (steps_of ls)
  steps_mirrored t i =
      let k = known t i in
      let s = k.0 in
      let m = k.1 in
      let e : m.mirror ≡ mirror t = λ j. record { from = m.from_is j; to = m.to_is j; weight = m.weight_is j } in
      subst (λ (x : Step). In x (steps_of ls)) e (member ls m.mirror s.number s.line s.at m.side m.low m.found)

  pub weights_small : (t : Step) → In t (steps_of ls) → Within max_weight t.weight
  weights_small t i = let s = source ls t i in line_weight n s.line s.side t (ok s.number s.line s.at) s.low s.found

  -- every step holds in every solution
  pub solution_says : (s : Assignment) → Solves ls s → (t : Step) → In t (steps_of ls) → Says s t
  solution_says s h t i =
      let c = source ls t i in
      subst (Holds s) c.found (meets_holds s c.line n (ok c.number c.line c.at) c.side c.low (solves_line ls s c.number c.line h c.at))

  -- and where every step holds and no line is false, the lines are met
  pub says_solution : (s : Assignment) → ((t : Step) → In t (steps_of ls) → Says s t) → ((k : ℕ) (l : Line) → At ls k l → is_false_lem l ≡ true → ⊥) → Solves ls s
  says_solution s says clear = lines_solve ls s met
    where
      holds : (k : ℕ) (l : Line) → At ls k l → (side : ℕ) → side < 2 → (x : Option Step) → step_of l side ≡ x → Holds s x
      holds k l a side h (Some t) e = says t (member ls t k l a side h e)
      holds k l a side h None e = tt

      low : (d : ℤ) → lt_z d (pos 0) ≡ false → pos 0 ⩽ d
      low d = simp ints (omega arith)

      right : (l : Line) → (is_false_lem l ≡ true → ⊥) → is_zero l ≡ true → (b : Bool) → lt_z l.d (pos 0) ≡ b → pos 0 ⩽ l.d
      right l f z true e = absurd (f (false_is l z e))
      right l f z false e = low l.d e

      met : (k : ℕ) (l : Line) → At ls k l → Meets s l
      met k l a =
          (line_steps s n l (ok k l a)).1
          (record { side_0 = holds k l a 0 (omega arith) (step_of l 0) refl; side_1 = holds k l a 1 (omega arith) (step_of l 1) refl; zero_zero = λ z. right l (clear k l a) z (lt_z l.d (pos 0)) refl })

-- ---- by step numbers
-- the number of a step in a list
module _ (L : List ℤ) where
  numbered_found : (k side : ℕ) (t : Step) → k < line_count L → side < 2 → step_of (line_at L k) side ≡ Some t → step_numbered_lem L (2 * k + side) ≡ Some t
  unfolding step_numbered_lem
  numbered_found k side t h l e =
      let a : (2 * k + side) / 2 ≡ k = omega arith in
      let b : (2 * k + side) % 2 ≡ side = omega arith in
      rw (a, b, lt-ltb k (line_count L) h) e

  pub record Numbered (ts : List Step) : Type 0 where
    pub numbers : List ℕ
    pub count : length numbers ≡ length ts
    pub names : Names L numbers ts

  -- steps of the list's lines have numbers
  pub numbered : (ts : List Step) → Steps (steps_of (lines_of L)) ts → Numbered ts
  numbered [] a = record { numbers = []; count = refl; names = tt }
  numbered (t ∷ ts) a =
      let r = numbered ts a.1 in
      let s = source (lines_of L) t a.0 in
      let k = at_line L s.number s.line s.at in
      record {
        numbers = (2 * s.number + s.side) ∷ r.numbers;
        count = ap suc r.count;
        names = (numbered_found s.number s.side t k.0 s.low (ap (λ (l : Line). step_of l s.side) k.1 ∙ s.found), r.names);
      }

  found_member : (k : ℕ) (t : Step) → step_numbered_lem L k ≡ Some t → In t (steps_of (lines_of L))
  unfolding step_numbered_lem
  found_member k t = go (ltb (k / 2) (line_count L)) refl
    where
      go : (b : Bool) → ltb (k / 2) (line_count L) ≡ b → cond b (step_of (line_at L (k / 2)) (k % 2)) None ≡ Some t → In t (steps_of (lines_of L))
      go true e f = member (lines_of L) t (k / 2) (line_at L (k / 2)) (line_at_law L (k / 2) (ltb-true _ _ e)) (k % 2) (omega arith) f
      go false e f = never (cc)

  -- and what numbers name are steps of the list's lines
  pub named_steps : (ks : List ℕ) (ts : List Step) → Names L ks ts → Steps (steps_of (lines_of L)) ts
  named_steps [] [] a = tt
  named_steps [] (t ∷ ts) a = absurd a
  named_steps (k ∷ ks) [] a = absurd a
  named_steps (k ∷ ks) (t ∷ ts) a = (found_member k t a.0, named_steps ks ts a.1)
