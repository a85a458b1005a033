-- The lines that a choice picks, as a list of their own: each once, in list order, however often it is picked. The choice's list, in which each other line is
-- 0 ≤ 0, has the same solutions, and its refutations are those of the whole list with steps of these lines alone.
use Rattle.std.specs.Prelude.{◌≡◌, ◌↔◌, Bool, cond, ◌||◌, eqb, get_or, drop, Ok}
use Rattle.std.proofs.Math.Path.{refl, ap, subst}
use Rattle.std.proofs.Common.{sym, ◌∙◌, inl, inr, ⊎_elim, length-append}
use Rattle.std.proofs.Math.Bool.{true, false}
use mathlib.Core.List.{List, [], ◌∷◌, ◌++◌}
use Prim.Native.Nat.{ℕ, zero, suc, ◌+◌, ◌*◌, ◌/◌, ◌%◌, ◌<◌, ◌≤◌}
use native.Mathlib.Omega.{arith}
use Rattle.std.proofs.Math.Decide.{dec_lt}
use borrow.Author.Tests.{le-ltb, eq-eqb, eqb-true}
use Rattle.std.proofs.Math.IntN.{ℤ}
use Rattle.std.proofs.Math.ListN.{length}
use Rattle.integers.specs.Laws.{never}
use Rattle.lines.specs.declared.Line.{Line}
use Rattle.lines.specs.Limits.{line_size, max_variables, max_lines}
use Rattle.lines.specs.Line.{numbers_of, line_at, line_count, lines_of, Assignment, Meets, Solves, Solvable, SameSolutions, is_false_lem}
use Rattle.lines.specs.LineNumbers.{length_numbers_of, lines_of_numbers}
use Rattle.lines.specs.Refusal.{line_validity_lem, lines_validity_lem, validity_of}
use Rattle.lines.specs.Solutions.{solves_append}
use Rattle.lines.specs.Valid.{valid_list, line_valid_more}
use Rattle.steps.specs.Laws.{from_line}
use Rattle.check_answers.specs.declared.CheckAnswer.TheVariants.{Yes}
use Rattle.check_refutation.specs.Progress.{head_size}
use Rattle.check_refutation.specs.Answer.{refutation_answer}
use Rattle.check_soundness.specs.Head.{kind_of}
use Rattle.check_soundness.specs.Refutes.{Closed, Falsehood, Refutes, kind_1, kind_2, kind_3}
use Rattle.check_soundness.specs.Carried.{Each, EachStep, refutes_each}
use Rattle.check_soundness.specs.Answered.{accepted_when}
use Rattle.theory_answers.specs.Decided.{Some, DueKind, due_1, due_2, due_3, LowestFalseLine}
use Rattle.tree_reading.specs.declared.Kind.TheVariants.{AllOf}
use Rattle.tree_reading.specs.Tree.{Row}
use Rattle.tree_reading.specs.Choices.{choices}
use Rattle.tree_lists.specs.Masked.{is_picked_lem, masked_solved, solved_masked, same_count, line_picked}
use Rattle.tree_lists.specs.Refuted.{PickedStep, false_masked, refutes_picked}
use Rattle.tree_lists.specs.Condition.{In, choice_flags, choice_list, picked_exactly, choice_valid}

-- choice number k of a tree: the numbers of the lines that it picks
abbrev pub choice_at : Row → ℕ → List ℕ
choice_at t k = get_or (choices AllOf t) k []

-- line i of the list is one of these
abbrev pub Picks : List ℤ → List ℕ → ℕ → Type 0
Picks L xs i = (i < line_count L) × In i xs

abbrev pub is_in : ℕ → List ℕ → Bool
is_in i [] = false
is_in i (x ∷ xs) = eqb i x || is_in i xs

-- line i alone, if these numbers name it; and of c lines, of which the first has number i, those that they name
abbrev pub picked_one : List ℤ → List ℕ → ℕ → List Line
picked_one L xs i = cond (is_in i xs) (line_at L i ∷ []) []

abbrev pub picked_from : List ℤ → List ℕ → ℕ → ℕ → List Line
picked_from L xs i zero = []
picked_from L xs i (suc c) = picked_one L xs i ++ picked_from L xs (i + 1) c

-- the lines that these numbers name: each once, in list order
abbrev pub picked_lines : List ℤ → List ℕ → List Line
picked_lines L xs = picked_from L xs 0 (line_count L)

-- and their numbers, as a list of their own
unfoldable pub picked_list : List ℤ → List ℕ → List ℤ
picked_list L xs = numbers_of (picked_lines L xs)

pub in_exactly : (i : ℕ) (xs : List ℕ) → (is_in i xs ≡ true) ↔ In i xs
in_exactly i [] = ((λ e. never (cc)), (λ h. absurd h))
in_exactly i (x ∷ xs) = let r = in_exactly i xs in (fore (eqb i x) refl r.0, ⊎_elim (λ e. ap (λ (t : Bool). t || is_in i xs) (eq-eqb i x e)) (λ h. back (eqb i x) (r.1 h)))
  where
    fore : (t : Bool) → eqb i x ≡ t → (is_in i xs ≡ true → In i xs) → (t || is_in i xs) ≡ true → In i (x ∷ xs)
    fore true e f h = inl (eqb-true i x e)
    fore false e f h = inr (f h)

    back : (t : Bool) → is_in i xs ≡ true → (t || is_in i xs) ≡ true
    back true h = refl
    back false h = h

-- ---- their solutions
module _ (L : List ℤ) (xs : List ℕ) where
  solves_one : (s : Assignment) (i : ℕ) → Solves (picked_one L xs i) s ↔ (In i xs → Meets s (line_at L i))
  solves_one s i = go (is_in i xs) refl
    where
      go : (t : Bool) → is_in i xs ≡ t → Solves (cond t (line_at L i ∷ []) []) s ↔ (In i xs → Meets s (line_at L i))
      go true e = ((λ h p. h.0), (λ f. (f ((in_exactly i xs).0 e), tt)))
      go false e = ((λ h p. never (cc (sym ((in_exactly i xs).1 p) ∙ e))), (λ f. tt))

  solves_from : (s : Assignment) (i c : ℕ) → Solves (picked_from L xs i c) s → (j : ℕ) → i ≤ j → j < i + c → In j xs → Meets s (line_at L j)
  solves_from s i zero h j l u p = absurd (omega arith)
  solves_from s i (suc c) h j l u p =
      let both = (solves_append (picked_one L xs i) (picked_from L xs (i + 1) c) s).0 h in
      go (dec_lt i j) ((solves_one s i).0 both.0) (λ q. solves_from s (i + 1) c both.1 j (omega arith) (omega arith) p)
    where
      go : Dec (i < j) → (In i xs → Meets s (line_at L i)) → (i < j → Meets s (line_at L j)) → Meets s (line_at L j)
      go (yes q) one rest = rest q
      go (no q) one rest = let same : i ≡ j = omega arith in subst (λ (k : ℕ). In k xs → Meets s (line_at L k)) same one p

  from_solves : (s : Assignment) (i c : ℕ) → ((j : ℕ) → i ≤ j → j < i + c → In j xs → Meets s (line_at L j)) → Solves (picked_from L xs i c) s
  from_solves s i zero f = tt
  from_solves s i (suc c) f =
      (solves_append (picked_one L xs i) (picked_from L xs (i + 1) c) s).1
      ((solves_one s i).1 (f i (omega arith) (omega arith)), from_solves s (i + 1) c (λ j l u. f j (omega arith) (omega arith)))

  -- what solves them meets each line that is picked
  pub solves_picked : (s : Assignment) → Solves (picked_lines L xs) s ↔ ((i : ℕ) → Picks L xs i → Meets s (line_at L i))
  solves_picked s = (
    (λ h i p. solves_from s 0 (line_count L) h i (omega arith) (omega (arith, p.0)) p.1),
    (λ f. from_solves s 0 (line_count L) (λ j l u p. f j (omega arith, p))),
  )

  -- ---- as a list of their own they are valid where the whole list is
  one_line : (i : ℕ) → length (picked_one L xs i) ≤ 1
  one_line i = go (is_in i xs)
    where
      go : (t : Bool) → length (cond t (line_at L i ∷ []) []) ≤ 1
      go true = omega arith
      go false = omega arith

  few_lines : (i c : ℕ) → length (picked_from L xs i c) ≤ c
  few_lines i zero = omega arith
  few_lines i (suc c) = omega (arith, length-append (picked_one L xs i) (picked_from L xs (i + 1) c), one_line i, few_lines (i + 1) c)

  lines_valid : (n : ℕ) → ((j : ℕ) → j < line_count L → line_validity_lem n j (line_at L j) ≡ Ok tt) → (k i c : ℕ) → i + c ≤ line_count L → lines_validity_lem n k (picked_from L xs i c) ≡ Ok tt
  unfolding lines_validity_lem
  lines_valid n f k i zero h = refl
  lines_valid n f k i (suc c) h = go (is_in i xs) (λ j. lines_valid n f j (i + 1) c (omega arith))
    where
      go : (t : Bool) → ((j : ℕ) → lines_validity_lem n j (picked_from L xs (i + 1) c) ≡ Ok tt) → lines_validity_lem n k (cond t (line_at L i ∷ []) [] ++ picked_from L xs (i + 1) c) ≡ Ok tt
      go true rest = rw (line_valid_more n n i k (line_at L i) (omega arith) (f i (omega arith))) (rest (k + 1))
      go false rest = rest k

  pub list_picked : lines_of (picked_list L xs) ≡ picked_lines L xs
  unfolding picked_list
  list_picked = lines_of_numbers (picked_lines L xs)

  pub picked_valid : (n : ℕ) → validity_of n L ≡ Ok tt → validity_of n (picked_list L xs) ≡ Ok tt
  unfolding validity_of picked_list
  picked_valid n v =
      let o = valid_list n L v in
      let K : List ℤ = picked_list L xs in
      let size : length K ≡ line_size * length (picked_lines L xs) = length_numbers_of (picked_lines L xs) in
      let whole : length K % line_size ≡ 0 = omega arith in
      let few : line_count K ≤ max_lines = omega (arith, few_lines 0 (line_count L), o.count) in
      let lines : lines_validity_lem n 0 (lines_of K) ≡ Ok tt = ap (lines_validity_lem n 0) list_picked ∙ lines_valid n o.each 0 0 (line_count L) (omega arith) in
      rw (le-ltb max_variables n o.variables, eq-eqb (length K % line_size) 0 whole, le-ltb max_lines (line_count K) few, lines)

-- ---- a refutation with steps of these lines alone
-- the step number is of a line that is picked
abbrev pub StepOf : List ℤ → List ℕ → ℕ → Type 0
StepOf L xs j = Picks L xs (j / 2)

-- which kind is due, of refutations with such steps alone
abbrev pub FalseOf : List ℤ → List ℕ → List ℕ → Type 0
FalseOf L xs R = Falsehood L R × EachStep (StepOf L xs) R

abbrev pub ClosedOf : List ℤ → List ℕ → List ℕ → Type 0
ClosedOf L xs R = Closed L R × EachStep (StepOf L xs) R

pub data PickedKind (L : List ℤ) (xs : List ℕ) : ℕ → Type 0 where
  picked_3 : Some (FalseOf L xs) → PickedKind L xs 3
  picked_1 : (Some (FalseOf L xs) → ⊥) → Some (ClosedOf L xs) → PickedKind L xs 1
  picked_2 : (Some (FalseOf L xs) → ⊥) → (Some (ClosedOf L xs) → ⊥) → PickedKind L xs 2

-- line i is the lowest false line that is picked
pub record LowestFalsePicked (L : List ℤ) (xs : List ℕ) (i : ℕ) : Type 0 where
  pub is_picked : Picks L xs i
  pub false_line : is_false_lem (line_at L i) ≡ true
  pub lowest : (j : ℕ) → j < i → Picks L xs j → is_false_lem (line_at L j) ≡ false

-- a kind of refutation, which its first number tells
record ByKind (P : List ℤ → List ℕ → Type 0) : Type 0 where
  kind : ℕ
  into : (L : List ℤ) (R : List ℕ) → P L R → Refutes L R × (kind_of R ≡ kind)
  from : (L : List ℤ) (R : List ℕ) → Refutes L R → kind_of R ≡ kind → P L R

closed_kind : ByKind Closed
closed_kind = record { kind = 1; into = λ L R c. (kind_1 c, ap kind_of c.is); from = go }
  where
    go : (L : List ℤ) (R : List ℕ) → Refutes L R → kind_of R ≡ 1 → Closed L R
    go L R (kind_1 c) e = c
    go L R (kind_2 c) e = absurd (omega (arith, ap kind_of c.is))
    go L R (kind_3 c) e = absurd (omega (arith, ap kind_of c.is))

false_kind : ByKind Falsehood
false_kind = record { kind = 3; into = λ L R c. (kind_3 c, ap kind_of c.is); from = go }
  where
    go : (L : List ℤ) (R : List ℕ) → Refutes L R → kind_of R ≡ 3 → Falsehood L R
    go L R (kind_1 c) e = absurd (omega (arith, ap kind_of c.is))
    go L R (kind_2 c) e = absurd (omega (arith, ap kind_of c.is))
    go L R (kind_3 c) e = c

-- each step is of a line of the list, so that only of such lines need Q follow from P
steps_change : (L : List ℤ) (R : List ℕ) (P Q : ℕ → Type 0) → Refutes L R → ((j : ℕ) → j / 2 < line_count L → P j → Q j) → EachStep P R → EachStep Q R
steps_change L R P Q r f p = go (drop head_size R) (refutes_each L (λ j. j / 2 < line_count L) (λ j s e. (from_line L j s e).0) (λ j w. omega (arith, w.is, w.within)) R r) p
  where
    go : (js : List ℕ) → Each (λ j. j / 2 < line_count L) js → Each P js → Each Q js
    go [] l p = tt
    go (j ∷ js) l p = (f j l.0 p.0, go js l.1 p.1)

-- ---- the choice's list
module _ (L : List ℤ) (t : Row) (k : ℕ) where
  -- it has the solutions of the lines that are picked
  pub choice_solutions : SameSolutions (lines_of (choice_list L t k)) (picked_lines L (choice_at t k))
  unfolding choice_list
  choice_solutions s = (
    (λ h. (solves_picked L (choice_at t k) s).1 (λ i p. masked_solved (choice_flags L t k) L s h i p.0 ((picked_exactly L t k i p.0).1 p.1))),
    (λ h. solved_masked (choice_flags L t k) L s (λ i l e. (solves_picked L (choice_at t k) s).0 h i (l, (picked_exactly L t k i l).0 e))),
  )

  pub choice_solvable : Solvable (lines_of (choice_list L t k)) ↔ Solvable (picked_lines L (choice_at t k))
  choice_solvable = (
    (λ s. record { assignment = s.assignment; solves = (choice_solutions s.assignment).0 s.solves }),
    (λ s. record { assignment = s.assignment; solves = (choice_solutions s.assignment).1 s.solves }),
  )

  -- and the refutations of the whole list with steps of these alone
  pub choice_refutes : (R : List ℕ) → Refutes (choice_list L t k) R ↔ (Refutes L R × EachStep (StepOf L (choice_at t k)) R)
  unfolding choice_list
  choice_refutes R =
      let same = refutes_picked (choice_flags L t k) L R in (
        (λ r. let h = same.0 r in (h.0, steps_change L R Flagged (StepOf L (choice_at t k)) h.0 (λ j l p. (l, (picked_exactly L t k (j / 2) l).0 p)) h.1)),
        (λ h. same.1 (h.0, steps_change L R (StepOf L (choice_at t k)) Flagged h.0 (λ j l p. (picked_exactly L t k (j / 2) l).1 p.1) h.1)),
      )
    where
      Flagged : ℕ → Type 0
      Flagged = PickedStep (choice_flags L t k) L

  pub choice_accepted : (n : ℕ) → validity_of n L ≡ Ok tt → (R : List ℕ)
      → (refutation_answer n (choice_list L t k) R ≡ Ok Yes) ↔ ((refutation_answer n L R ≡ Ok Yes) × EachStep (StepOf L (choice_at t k)) R)
  choice_accepted n v R = (
    (λ e.
        let a = (accepted_when n (choice_list L t k) R).0 e in
        let r = (choice_refutes R).0 a.2 in
        ((accepted_when n L R).1 (v, a.1, r.0), r.1)),
    (λ h.
        let a = (accepted_when n L R).0 h.0 in
        (accepted_when n (choice_list L t k) R).1 (choice_valid n L t k v, a.1, (choice_refutes R).1 (a.2, h.1))),
  )

  -- ---- the kind that is due
  some_picked : {P : List ℤ → List ℕ → Type 0} → ByKind P → Some (P (choice_list L t k)) ↔ Some (λ R. P L R × EachStep (StepOf L (choice_at t k)) R)
  some_picked i = (
    (λ f.
        let p = i.into (choice_list L t k) f.0 f.1 in
        let r = (choice_refutes f.0).0 p.0 in
        (f.0, (i.from L f.0 r.0 p.1, r.1))),
    (λ f.
        let p = i.into L f.0 f.1.0 in
        (f.0, i.from (choice_list L t k) f.0 ((choice_refutes f.0).1 (p.0, f.1.1)) p.1)),
  )

  pub kind_picked : (d : ℕ) → DueKind (choice_list L t k) d → PickedKind L (choice_at t k) d
  kind_picked _ (due_3 f) = picked_3 ((some_picked false_kind).0 f)
  kind_picked _ (due_1 f c) = picked_1 (λ g. f ((some_picked false_kind).1 g)) ((some_picked closed_kind).0 c)
  kind_picked _ (due_2 f c) = picked_2 (λ g. f ((some_picked false_kind).1 g)) (λ d. c ((some_picked closed_kind).1 d))

  -- a false line of it is one that is picked
  false_picked : (i : ℕ) → i < line_count L → (is_false_lem (line_at (choice_list L t k) i) ≡ true) ↔ (Picks L (choice_at t k) i × (is_false_lem (line_at L i) ≡ true))
  unfolding choice_list
  false_picked i l = (fore, back)
    where
      fore : is_false_lem (line_at (choice_list L t k) i) ≡ true → Picks L (choice_at t k) i × (is_false_lem (line_at L i) ≡ true)
      fore e =
          let w = false_masked (choice_flags L t k) L (2 * i) (record { line = i; is = refl; within = subst (λ (c : ℕ). i < c) (sym (same_count (choice_flags L t k) L)) l; false_line = e }) in
          let same : w.1.line ≡ i = omega (arith, w.1.is) in
          let half : 2 * i / 2 ≡ i = omega arith in
          ((l, (picked_exactly L t k i l).0 (subst (λ (j : ℕ). is_picked_lem (choice_flags L t k) j ≡ true) half w.0)), subst (λ (j : ℕ). is_false_lem (line_at L j) ≡ true) same w.1.false_line)

      back : Picks L (choice_at t k) i × (is_false_lem (line_at L i) ≡ true) → is_false_lem (line_at (choice_list L t k) i) ≡ true
      back h = ap is_false_lem (line_picked (choice_flags L t k) L i l ((picked_exactly L t k i l).1 h.0.1)) ∙ h.1

  pub picked_false : (i : ℕ) → Picks L (choice_at t k) i → is_false_lem (line_at L i) ≡ true → (i < line_count (choice_list L t k)) × (is_false_lem (line_at (choice_list L t k) i) ≡ true)
  unfolding choice_list
  picked_false i p e = (subst (λ (c : ℕ). i < c) (sym (same_count (choice_flags L t k) L)) p.0, (false_picked i p.0).1 (p, e))

  -- the lowest of them
  pub lowest_picked : (i : ℕ) → LowestFalseLine (choice_list L t k) i → LowestFalsePicked L (choice_at t k) i
  unfolding choice_list
  lowest_picked i w =
      let l : i < line_count L = subst (λ (c : ℕ). i < c) (same_count (choice_flags L t k) L) w.within in
      let f = (false_picked i l).0 w.false_line in
      record { is_picked = f.0; false_line = f.1; lowest = λ j b p. before j b p (is_false_lem (line_at L j)) refl }
    where
      before : (j : ℕ) → j < i → Picks L (choice_at t k) j → (x : Bool) → is_false_lem (line_at L j) ≡ x → x ≡ false
      before j b p true e = let z = (false_picked j p.0).1 (p, e) in never (cc (sym z ∙ w.lowest j b))
      before j b p false e = refl
