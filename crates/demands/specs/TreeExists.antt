-- Calls about a tree exist: a valid list, a tree that fits with few enough choices and buffers that have room are answered, whatever stood in the buffers. And
-- whatever numbers are answered are those of a tree.
use Rattle.tree_deciding.specs.declared.ConditionRefusal.{ConditionRefusal}
use Rattle.std.specs.Prelude.{◌≡◌, List, [], ℤ, length, Ok, Option, Result}
use Rattle.std.proofs.Math.Path.{refl, sym}
use Rattle.std.proofs.Common.{ap, subst, ◌∙◌, arith}
use Prim.Native.Nat.{ℕ, ◌<◌, ◌≤◌}
use borrow.Author.Tests.{le-ltb}
use Rattle.lines.specs.Line.{line_count}
use Rattle.lines.specs.Refusal.{validity_of}
use Rattle.decide_buffers.specs.Room.{Lent, lengths_of, ModelLent, model_lengths_of, model_room_lem, work_room_lem, room_valid}
use Rattle.decide.specs.Decided.{DecideOk}
use Rattle.tree_reading.specs.declared.Kind.TheVariants.{AllOf}
use Rattle.tree_reading.specs.Tree.{Row as Tree, tree_numbers, levels, Fits}
use Rattle.tree_reading.specs.Choices.{count, overs_of}
use Rattle.tree_reading.specs.Accepted.{root_of}
use Rattle.tree_reading.specs.Over.{valid_back}
use Rattle.tree_reading.specs.Taken.{taken}
use Rattle.tree_choices.specs.Chosen.{choice_read}
use Rattle.tree_choices.specs.Marking.{choice_there}
use Rattle.tree_answers.specs.First.{choice_verdict, first_choice}
use Rattle.tree_deciding.specs.Answer.{TreeValidity, valid, unless_refused, choice_validity, first_validity, tree_over, choice_found, first_found_lem, choice_answer, first_answer, DecidesChoice, AnswersFirst}
use Rattle.tree_deciding.specs.Meaning.{NotRefused, first_taken, choice_taken}
use Rattle.demands.specs.TreeCalls.{ChoiceCall, FirstCall, choice_answers, first_answers, taken_tree}
use Rattle.demands.specs.TreeVersions.{right_choice, right_choice_keeps, right_first, right_first_keeps}

-- ---- the calls of the versions that keep the promises
module _ (n : ℕ) (L : List ℤ) (t : Tree) (fits : Fits (line_count L) AllOf levels t) (few : overs_of t ≡ []) where
  abbrev numbers : List ℕ
  numbers = tree_numbers t

  module _ (k : ℕ) (below : k < count AllOf t) (b : Lent) (ok : DecideOk n L b) where
    choice_valid : choice_validity n L numbers k (lengths_of b) ≡ valid
    unfolding choice_validity
    choice_valid =
        let read = valid_back t (line_count L) fits few in
        let there = choice_there numbers (line_count L) k (root_of numbers t) read (omega (arith, (taken_tree (line_count L) t (root_of numbers t) read).1)) in
        rw (ok.list, there, room_valid n (lengths_of b) ok.rooms)

    pub a_choice_call : (c : ChoiceCall n L t k) × (c.before ≡ b)
    unfolding choice_answer
    a_choice_call =
        let keeps = right_choice_keeps n L numbers k b in
        let found : Result (Option ℕ) ConditionRefusal = choice_found k (choice_verdict n L (tree_over L numbers) k) in (
          record {
            answer = (right_choice n L numbers k b).answer;
            before = b;
            after = (right_choice n L numbers k b).after;
            promised = keeps;
            not_refused = λ r e. choice_answers k (choice_verdict n L (tree_over L numbers) k) r (sym (ap (λ (v : TreeValidity). unless_refused v found) choice_valid) ∙ sym keeps.is ∙ e);
          },
          refl,
        )

  module _ (b : ModelLent) (list : validity_of n L ≡ Ok tt) (model : model_room_lem n ≤ length b.model) (work : work_room_lem n ≤ length b.work) where
    first_valid : first_validity n L numbers (model_lengths_of b) ≡ valid
    unfolding first_validity
    first_valid = rw (list, valid_back t (line_count L) fits few, le-ltb (length b.model) (model_room_lem n) model, le-ltb (length b.work) (work_room_lem n) work)

    pub a_first_call : (c : FirstCall n L t) × (c.before ≡ b)
    unfolding first_answer
    a_first_call =
        let keeps = right_first_keeps n L numbers b in
        let total : ℕ = count AllOf (tree_over L numbers) in
        let first : ℕ = first_choice n L (tree_over L numbers) in (
          record {
            answer = (right_first n L numbers b).answer;
            before = b;
            after = (right_first n L numbers b).after;
            promised = keeps;
            not_refused = λ r e. first_answers total first r (sym (ap (λ (v : TreeValidity). unless_refused v (first_found_lem total first)) first_valid) ∙ sym keeps.is ∙ e);
          },
          refl,
        )

-- ---- the calls of any numbers that are answered
module _ (n : ℕ) (L : List ℤ) (s : List ℕ) (x : Result (Option ℕ) ConditionRefusal) (h : NotRefused x) where
  pub choice_call_of : (k : ℕ) (b a : Lent) → DecidesChoice n L s k x b a
      → (t : Tree) × (s ≡ tree_numbers t) × (c : ChoiceCall n L t k) × (c.answer ≡ x) × (c.before ≡ b) × (c.after ≡ a)
  choice_call_of k b a d =
      let ok = choice_taken n L s k b (λ r e. h r (d.is ∙ e)) in
      let read = (choice_read s (line_count L) k ok.root ok.read).0 in
      let same = (taken s (line_count L) ok.root read).numbers.numbered in
      (tree_over L s, same, record { answer = x; before = b; after = a; promised = subst (λ (u : List ℕ). DecidesChoice n L u k x b a) same d; not_refused = h }, refl, refl, refl)

  pub first_call_of : (b a : ModelLent) → AnswersFirst n L s x b a → (t : Tree) × (s ≡ tree_numbers t) × (c : FirstCall n L t) × (c.answer ≡ x) × (c.before ≡ b) × (c.after ≡ a)
  first_call_of b a d =
      let ok = first_taken n L s b (λ r e. h r (d.is ∙ e)) in
      let same = (taken s (line_count L) ok.root ok.read).numbers.numbered in
      (tree_over L s, same, record { answer = x; before = b; after = a; promised = subst (λ (u : List ℕ). AnswersFirst n L u x b a) same d; not_refused = h }, refl, refl, refl)
