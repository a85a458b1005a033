-- What a version of deciding is and what it leaves, one that keeps the promise, and inputs that versions are held to.
use Rattle.lines.specs.declared.Refusal.{Refusal}
use Rattle.std.specs.Prelude.{◌≡◌, refl, Bool, true, false, List, [], ◌∷◌, ◌++◌, ℕ, ℤ, pos, neg_ℤ, length, drop, replicate, Err, Ok, Result}
use Rattle.std.proofs.Common.{ap, subst}
use Rattle.integers.specs.Laws.{never}
use Rattle.lines.specs.Line.{line_at, lines_of, is_false_lem}
use Rattle.lines.specs.Refusal.{line_tests, lines_validity_lem, validity_of}
use Rattle.steps.specs.Table.{entry, digit}
use Rattle.steps.specs.Step.{step_of, steps_of}
use Rattle.theory_walks.specs.Row.{relax_row, start_row_lem, rounds, row_at, best}
use Rattle.theory_walks.specs.Negative.{no_negative}
use Rattle.theory_bounds.specs.Verdict.{has_false, verdict_of}
use Rattle.theory_bounds.specs.Answers.{model_of, bounds_of, groups_of}
use Rattle.theory_answers.specs.Refuted.{Due, due_refutation}
use Rattle.decide_buffers.specs.Room.{Lent, model_room_lem, bounds_room_lem, groups_room_lem, refutation_room_lem, identifiers_room_lem, work_room_lem, rooms_validity, decide_validity_lem}
use Rattle.decide_identifiers.specs.Identifiers.{identifiers_of, length_identifiers}
use Rattle.decide.specs.declared.Answer.{Answer}
use Rattle.decide.specs.declared.Answer.TheVariants.{Yes, No}
use Rattle.decide.specs.Parts.{no_verdict}
use Rattle.decide.specs.Decided.{OnYes, OnNo, Leaves, LeavesIn, Decided, cleared_to, decide_answer, answer_for}
use Rattle.demands.specs.Cases.{list_8}

-- what a call gives back: its answer, and what the lent buffers hold after
pub record Outcome : Type 0 where
  pub answer : Result Answer Refusal
  pub after : Lent

abbrev pub Version : Type 0
Version = ℕ → List ℤ → Lent → Outcome

-- the promise of deciding, of any version of it
abbrev pub Keeps : Version → Type 0
Keeps f = (n : ℕ) (L : List ℤ) (b : Lent) → Decided n L (f n L b).answer b (f n L b).after

-- ---- what is left
-- on a yes: a model, bounds and groups in front, and a work area that is cleared to its room
abbrev pub written_in : ℕ → ℕ → List ℤ → List ℤ → List ℕ → Lent → Lent
written_in room n model bounds groups b =
    record {
      model = model ++ drop (model_room_lem n) b.model;
      bounds = bounds ++ drop (bounds_room_lem n) b.bounds;
      groups = groups ++ drop (groups_room_lem n) b.groups;
      refutation = b.refutation;
      identifiers = b.identifiers;
      work = cleared_to room b.work;
    }

abbrev pub written : ℕ → List ℤ → List ℤ → List ℕ → Lent → Lent
written n = written_in (work_room_lem n) n

-- on a no: a refutation in front and what is given for its identifiers, and such a work area
abbrev refuted_in : ℕ → List ℕ → List ℕ → Lent → Lent
refuted_in room R I b =
    record {
      model = b.model;
      bounds = b.bounds;
      groups = b.groups;
      refutation = R ++ drop (length R) b.refutation;
      identifiers = I ++ drop (length I) b.identifiers;
      work = cleared_to room b.work;
    }

abbrev pub refuted_with : ℕ → List ℕ → List ℕ → Lent → Lent
refuted_with n = refuted_in (work_room_lem n)

abbrev pub refuted : ℕ → List ℤ → List ℕ → Lent → Lent
refuted n L R = refuted_with n R (identifiers_of L R)

-- by the answer; a refusal leaves everything as it was
abbrev pub left_by : Result Answer Refusal → (before onYes onNo : Lent) → Lent
left_by (Ok Yes) b y m = y
left_by (Ok No) b y m = m
left_by (Err r) b y m = b

abbrev pub outcome : Result Answer Refusal → (before onYes onNo : Lent) → Outcome
outcome a b y m = record { answer = a; after = left_by a b y m }

-- the right answer, and by it what these two say
abbrev pub Left : Type 0
Left = ℕ → List ℤ → Lent → Lent

abbrev pub leaving : (onYes onNo : Left) → Version
leaving y m n L b = outcome (answer_for n L b) b (y n L b) (m n L b)

-- ---- a version that keeps the promise, so that wrong ones (DecideVersions.antt, LeftVersions.antt) break it only by what they do otherwise
-- a due refutation, where one is due
abbrev numbers_by : (n : ℕ) (L : List ℤ) (v : Bool) → verdict_of n (lines_of L) ≡ v → List ℕ
numbers_by n L true e = []
numbers_by n L false e = (due_refutation n L e).0

pub due_numbers : ℕ → List ℤ → List ℕ
due_numbers n L = numbers_by n L (verdict_of n (lines_of L)) refl

pub due_numbers_law : (n : ℕ) (L : List ℤ) → verdict_of n (lines_of L) ≡ false → Due n L (due_numbers n L)
unfolding due_numbers
due_numbers_law n L = go (verdict_of n (lines_of L)) refl
  where
    go : (v : Bool) (e : verdict_of n (lines_of L) ≡ v) → v ≡ false → Due n L (numbers_by n L v e)
    go true e z = never (cc)
    go false e z = (due_refutation n L e).1

abbrev pub right_yes_in : ℕ → Left
right_yes_in room n L = written_in room n (model_of n (lines_of L)) (bounds_of n (lines_of L)) (groups_of n (lines_of L))

abbrev pub right_no_in : ℕ → Left
right_no_in room n L = refuted_in room (due_numbers n L) (identifiers_of L (due_numbers n L))

pub right_leaves : (room n : ℕ) (L : List ℤ) (b : Lent) (x : Result Answer Refusal) → (x ≡ Ok No → verdict_of n (lines_of L) ≡ false) → LeavesIn room n L x b (left_by x b (right_yes_in room n L b) (right_no_in room n L b))
right_leaves room n L b (Ok Yes) verdict = record { model = refl; bounds = refl; groups = refl; refutation = refl; identifiers = refl; work = refl }
right_leaves room n L b (Ok No) verdict =
    let R = due_numbers n L in
    record {
      numbers = R;
      due = due_numbers_law n L (verdict refl);
      refutation = refl;
      identifiers = ap (λ (k : ℕ). identifiers_of L R ++ drop k b.identifiers) (length_identifiers L R);
      model = refl;
      bounds = refl;
      groups = refl;
      work = refl;
    }
right_leaves room n L b (Err r) verdict = refl

abbrev pub right_yes : Left
right_yes n L = right_yes_in (work_room_lem n) n L

abbrev pub right_no : Left
right_no n L = right_no_in (work_room_lem n) n L

pub right : Version
right = leaving right_yes right_no

pub right_keeps : Keeps right
unfolding right
right_keeps n L b = record { is = refl; leaves = right_leaves (work_room_lem n) n L b (answer_for n L b) (no_verdict n L b) }

-- ---- what the promise says of a version with the right answer
pub on_yes : (y m : Left) → Keeps (leaving y m) → (n : ℕ) (L : List ℤ) (b : Lent) → answer_for n L b ≡ Ok Yes → OnYes n L b (y n L b)
on_yes y m k n L b e = subst (λ (a : Result Answer Refusal). Leaves n L a b (left_by a b (y n L b) (m n L b))) e (k n L b).leaves

pub on_no : (y m : Left) → Keeps (leaving y m) → (n : ℕ) (L : List ℤ) (b : Lent) → answer_for n L b ≡ Ok No → OnNo n L b (m n L b)
on_no y m k n L b e = subst (λ (a : Result Answer Refusal). Leaves n L a b (left_by a b (y n L b) (m n L b))) e (k n L b).leaves

-- ---- the inputs
-- buffers of exactly the room needed, all zeros, but for the refutation buffer, which holds r everywhere
abbrev pub room_with : ℕ → ℕ → Lent
room_with n r =
    record {
      model = replicate (model_room_lem n) (pos 0);
      bounds = replicate (bounds_room_lem n) (pos 0);
      groups = replicate (groups_room_lem n) 0;
      refutation = replicate (refutation_room_lem n) r;
      identifiers = replicate (identifiers_room_lem n) 0;
      work = replicate (work_room_lem n) (pos 0);
    }

abbrev pub room : ℕ → Lent
room n = room_with n 0

-- x at most 5
abbrev pub at_most5 : List ℤ
at_most5 = pos 1 ∷ pos 0 ∷ pos 0 ∷ pos 0 ∷ pos 5 ∷ pos 0 ∷ []

-- x and y equal
abbrev pub equal_pair : List ℤ
equal_pair =
    pos 1 ∷ pos 0 ∷ neg_ℤ (pos 1) ∷ pos 1 ∷ pos 0 ∷ pos 0
    ∷ neg_ℤ (pos 1) ∷ pos 0 ∷ pos 1 ∷ pos 1 ∷ pos 0 ∷ pos 0
    ∷ []

pub list_8_no : answer_for 1 list_8 (room_with 1 9) ≡ Ok No
unfolding decide_answer decide_validity_lem rooms_validity validity_of lines_validity_lem line_tests line_at is_false_lem verdict_of has_false no_negative
    entry digit step_of steps_of relax_row start_row_lem rounds row_at best
list_8_no = refl
