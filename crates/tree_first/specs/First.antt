-- Finding the first choice with a solution: why each way out keeps the promise.
use Rattle.tree_deciding.specs.declared.ConditionRefusal.{ConditionRefusal}
use Rattle.std.specs.Prelude.{◌≡◌, Bool, true, false, cond, List, ◌++◌, ℕ, ◌≤◌, ltb, ℤ, pos, length, drop, replicate, Err, None, Ok, Option, Result, Some}
use Rattle.std.proofs.Math.Path.{refl, sym, ap₂}
use Rattle.std.proofs.Common.{ap, ◌∙◌, arith}
use Rattle.lines.specs.declared.Refusal.{Refusal}
use Rattle.lines.specs.Line.{line_count}
use Rattle.lines.specs.Refusal.{validity_of}
use Rattle.decide_buffers.specs.Room.{ModelLent, model_lengths_of, work_room_lem, model_rooms, first_short, none_short}
use Rattle.decide.specs.Decided.{cleared, used_room_law, cleared_is}
use Rattle.tree_reading.specs.declared.Kind.TheVariants.{AllOf}
use Rattle.tree_reading.specs.Choices.{count}
use Rattle.tree_reading.specs.declared.TreeRefusal.{TreeRefusal}
use Rattle.tree_reading.specs.declared.Node.{Node}
use Rattle.tree_reading.specs.Reading.{valid_tree_lem}
use Rattle.tree_answers.specs.First.{first_choice}
use Rattle.tree_deciding.specs.declared.ConditionRefusal.TheVariants.{Deciding, Tree}
use Rattle.tree_deciding.specs.Answer.{of_deciding, of_tree, ◌or_next◌, first_validity, unless_refused, tree_over, first_found_lem, first_answer, model_left, work_left, AnswersFirst}
use Rattle.tree_first.specs.Tried.{TryAsked, FirstTried, counted}

-- what is found is no refusal
found_clears : (n total k : ℕ) (w : List ℤ) → work_left n (first_found_lem total k) w ≡ cleared n w
found_clears n total k w = go (ltb k total)
  where
    go : (t : Bool) → work_left n (cond t (Ok (Some k)) (Ok None)) w ≡ cleared n w
    go true = refl
    go false = refl

module _ (n : ℕ) (L : List ℤ) (s : List ℕ) (b : ModelLent) where
  pub list_refused : (r : Refusal) → validity_of n L ≡ Err r → AnswersFirst n L s (Err (Deciding r)) b b
  unfolding first_answer first_validity
  list_refused r e = record { is = sym (rw e); model = refl; work = refl }

  module _ (valid : validity_of n L ≡ Ok tt) where
    pub tree_refused : (r : TreeRefusal) → valid_tree_lem s (line_count L) ≡ Err r → AnswersFirst n L s (Err (Tree r)) b b
    unfolding first_answer first_validity
    tree_refused r e = record { is = sym (rw (valid, e)); model = refl; work = refl }

    module _ (root : Node) (read : valid_tree_lem s (line_count L) ≡ Ok root) where
      abbrev total : ℕ
      total = count AllOf (tree_over L s)

      -- what is due unless a buffer is short
      abbrev due : Result (Option ℕ) ConditionRefusal
      due = first_found_lem total (first_choice n L (tree_over L s))

      rooms_alone : first_answer n L s (model_lengths_of b) ≡ unless_refused (of_deciding (first_short model_rooms n (model_lengths_of b))) due
      unfolding first_answer first_validity
      rooms_alone =
          ap₂ (λ (v : Result Unit Refusal) (u : Result Node TreeRefusal). unless_refused (of_deciding v or_next of_tree u or_next of_deciding (first_short model_rooms n (model_lengths_of b))) due) valid read

      pub room_refused : (r : Refusal) → first_short model_rooms n (model_lengths_of b) ≡ Err r → AnswersFirst n L s (Err (Deciding r)) b b
      room_refused r e = record { is = sym (rooms_alone ∙ ap (λ (v : Result Unit Refusal). unless_refused (of_deciding v) due) e); model = refl; work = refl }

      module _ (rooms : first_short model_rooms n (model_lengths_of b) ≡ Ok tt) where
        pub asked : TryAsked n L s root.choices b.model b.work
        asked =
            let r = none_short model_rooms n (model_lengths_of b) rooms in
            record { list = valid; root = root; read = read; total_is = refl; model_room = r.0; work_room = omega (arith, used_room_law n, r.1.0) }

        module _ {first : ℕ} {model' work' : List ℤ} (f : FirstTried n L (tree_over L s) b.model b.work first model' work') where
          pub room_left : work_room_lem n ≤ length work'
          room_left = omega (arith, f.same_length, (none_short model_rooms n (model_lengths_of b) rooms).1.0)

          pub answers : (w : List ℤ) → w ≡ replicate (work_room_lem n) (pos 0) ++ drop (work_room_lem n) work'
              → (x : Result (Option ℕ) ConditionRefusal) → x ≡ first_found_lem root.choices first → AnswersFirst n L s x b (record { model = model'; work = w })
          answers w z x e =
              record {
                is = found ∙ ap (first_found_lem total) f.is ∙ sym (rooms_alone ∙ ap (λ (v : Result Unit Refusal). unless_refused (of_deciding v) due) rooms);
                model = f.model_left_law ∙ ap (λ (y : Result (Option ℕ) ConditionRefusal). model_left n L (tree_over L s) y b.model) (sym found);
                work = cleared_is n b.work work' w f.behind z ∙ sym (ap (λ (y : Result (Option ℕ) ConditionRefusal). work_left n y b.work) found ∙ found_clears n total first b.work);
              }
            where
              found : x ≡ first_found_lem total first
              found = e ∙ ap (λ (c : ℕ). first_found_lem c first) (counted n L s root.choices b.model b.work asked)
