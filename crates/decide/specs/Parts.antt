-- What an answer says of the verdict, and the parts of the lent buffers that deciding writes, with what stands in them.
use Rattle.std.specs.Prelude.{◌≡◌, refl, ◌↔◌, Bool, true, false, cond, List, ℕ, ℤ, length, take, drop, Err, Ok, Result}
use Rattle.std.proofs.Common.{sym, ◌∙◌}
use Rattle.std.proofs.Math.Path.{ap}
use Rattle.std.proofs.Math.Seq.{take_at}
use Rattle.integers.specs.Laws.{never}
use Rattle.integers.specs.Sequence.{length_tabulate}
use Rattle.lines.specs.declared.Refusal.{Refusal}
use Rattle.lines.specs.Line.{lines_of}
use Rattle.check_soundness.specs.Head.{steps_in, stated}
use Rattle.check_soundness.specs.Refutes.{stated_length_law}
use Rattle.theory_bounds.specs.Verdict.{verdict_of}
use Rattle.theory_bounds.specs.Answers.{model_of, bounds_of, groups_of}
use Rattle.decide_identifiers.specs.Identifiers.{identifiers_of, length_identifiers, counts_front}
use Rattle.decide_buffers.specs.Room.{Lent, model_room_lem, bounds_room_lem, groups_room_lem}
use Rattle.decide.specs.declared.Answer.TheVariants.{Yes, No}
use Rattle.decide.specs.Decided.{NotRefused, unless_refused, judged, judged_refused, decide_answer, answer_for, validity_for, YesLeft, NoLeft}

-- The parts that are written: of a refutation, the 3 + p + q numbers that its counts tell.
abbrev pub model_in_lem : ℕ → Lent → List ℤ
model_in_lem n a = take (model_room_lem n) a.model

abbrev pub bounds_in : ℕ → Lent → List ℤ
bounds_in n a = take (bounds_room_lem n) a.bounds

abbrev pub groups_in : ℕ → Lent → List ℕ
groups_in n a = take (groups_room_lem n) a.groups

abbrev pub refutation_in : Lent → List ℕ
refutation_in a = stated a.refutation

-- the identifiers of its steps
abbrev pub identifiers_in : Lent → List ℕ
identifiers_in a = take (steps_in a.refutation) a.identifiers

-- ---- the verdict, by the answer
pub yes_answers : NotRefused (Ok Yes)
yes_answers r e = never (cc)

pub no_answers : NotRefused (Ok No)
no_answers r e = never (cc)

-- whichever engine refuses
module _ (n : ℕ) (L : List ℤ) (v : Result Unit Refusal) where
  pub judged_valid : NotRefused (judged v n L) → v ≡ Ok tt
  judged_valid = go v
    where
      go : (v : Result Unit Refusal) → NotRefused (judged v n L) → v ≡ Ok tt
      go (Ok _) h = refl
      go (Err r) h = absurd (h r refl)

  pub judged_true : judged v n L ≡ Ok Yes → verdict_of n (lines_of L) ≡ true
  judged_true = go v (verdict_of n (lines_of L))
    where
      go : (v : Result Unit Refusal) (t : Bool) → unless_refused v (cond t (Ok Yes) (Ok No)) ≡ Ok Yes → t ≡ true
      go (Ok _) true e = refl
      go (Ok _) false e = never (cc)
      go (Err r) t e = never (cc)

  pub judged_false : judged v n L ≡ Ok No → verdict_of n (lines_of L) ≡ false
  judged_false = go v (verdict_of n (lines_of L))
    where
      go : (v : Result Unit Refusal) (t : Bool) → unless_refused v (cond t (Ok Yes) (Ok No)) ≡ Ok No → t ≡ false
      go (Ok _) true e = never (cc)
      go (Ok _) false e = refl
      go (Err r) t e = never (cc)

  -- a refusal is given exactly if it is found
  pub judged_refuses : (r : Refusal) → (judged v n L ≡ Err r) ↔ (v ≡ Err r)
  judged_refuses r = (fore v (verdict_of n (lines_of L)), (λ e. sym (judged_refused n L v r e)))
    where
      fore : (v : Result Unit Refusal) (t : Bool) → unless_refused v (cond t (Ok Yes) (Ok No)) ≡ Err r → v ≡ Err r
      fore (Ok _) true e = never (cc)
      fore (Ok _) false e = never (cc)
      fore (Err q) t e = cc

module _ (n : ℕ) (L : List ℤ) (b : Lent) where
  -- what is answered is valid
  pub answered_valid : NotRefused (answer_for n L b) → validity_for n L b ≡ Ok tt
  unfolding decide_answer
  answered_valid = judged_valid n L (validity_for n L b)

  pub yes_verdict : answer_for n L b ≡ Ok Yes → verdict_of n (lines_of L) ≡ true
  unfolding decide_answer
  yes_verdict = judged_true n L (validity_for n L b)

  pub no_verdict : answer_for n L b ≡ Ok No → verdict_of n (lines_of L) ≡ false
  unfolding decide_answer
  no_verdict = judged_false n L (validity_for n L b)

-- ---- the written part is the refutation
module _ {room n : ℕ} {L : List ℤ} {b a : Lent} where
  pub model_in : YesLeft room n L b a → model_in_lem n a ≡ model_of n (lines_of L)
  unfolding model_of
  model_in w = ap (take (model_room_lem n)) w.model ∙ take_at (model_of n (lines_of L)) _ (model_room_lem n) (length_tabulate (model_room_lem n) _)

  pub bounds_in_law : YesLeft room n L b a → bounds_in n a ≡ bounds_of n (lines_of L)
  unfolding bounds_of
  bounds_in_law w = ap (take (bounds_room_lem n)) w.bounds ∙ take_at (bounds_of n (lines_of L)) _ (bounds_room_lem n) (length_tabulate (bounds_room_lem n) _)

  pub groups_in_law : YesLeft room n L b a → groups_in n a ≡ groups_of n (lines_of L)
  unfolding groups_of
  groups_in_law w = ap (take (groups_room_lem n)) w.groups ∙ take_at (groups_of n (lines_of L)) _ (groups_room_lem n) (length_tabulate (groups_room_lem n) _)

  pub refutation_in_law : (w : NoLeft room n L b a) → refutation_in a ≡ w.numbers
  refutation_in_law w =
      let size = stated_length_law L w.numbers w.due.refutes (drop (length w.numbers) b.refutation) in
      ap stated w.refutation ∙ take_at w.numbers _ _ size

  -- the counts that the buffer states are those of the refutation
  pub steps_in_law : (w : NoLeft room n L b a) → steps_in a.refutation ≡ steps_in w.numbers
  steps_in_law w = ap steps_in w.refutation ∙ counts_front n L w.numbers (drop (length w.numbers) b.refutation) w.due.refutes

  pub identifiers_in_law : (w : NoLeft room n L b a) → identifiers_in a ≡ identifiers_of L w.numbers
  identifiers_in_law w =
      rw (steps_in_law w) (ap (take (steps_in w.numbers)) w.identifiers ∙ take_at (identifiers_of L w.numbers) _ _ (length_identifiers L w.numbers))
