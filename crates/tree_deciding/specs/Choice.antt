-- Deciding a choice by deciding its list: why each way out keeps the promise.
use Rattle.tree_deciding.specs.declared.ConditionRefusal.{ConditionRefusal}
use Rattle.std.specs.Prelude.{◌≡◌, cond, ℕ, ℤ, Err, None, Ok, Option, Result, Some}
use Rattle.std.proofs.Math.Path.{refl, sym, ap}
use Rattle.std.proofs.Common.{ap₂, subst, ◌∙◌}
use Rattle.std.proofs.Math.Bool.{Bool, true, false}
use mathlib.Core.List.{List, ◌++◌}
use Rattle.std.proofs.Math.ListN.{drop}
use Rattle.lines.specs.declared.Refusal.{Refusal}
use Rattle.lines.specs.Line.{line_count}
use Rattle.lines.specs.Refusal.{◌or_else◌, validity_of}
use Rattle.check_soundness.specs.Head.{steps_in}
use Rattle.decide_buffers.specs.Room.{Lent, lengths_of, rooms_validity, decide_validity_lem}
use Rattle.decide.specs.declared.Answer.{Answer}
use Rattle.decide.specs.declared.Answer.TheVariants as decide
use Rattle.decide.specs.Decided.{decide_answer, OnNo, Leaves, Decided}
use Rattle.decide.specs.Decided as decided
use Rattle.tree_reading.specs.Tree.{Row}
use Rattle.tree_reading.specs.declared.TreeRefusal.{TreeRefusal}
use Rattle.tree_reading.specs.declared.Node.{Node}
use Rattle.tree_choices.specs.Choosing.{choice_of}
use Rattle.tree_choices.specs.Chosen.{choice_read}
use Rattle.tree_lists.specs.Condition.{choice_flags, choice_list, choice_valid}
use Rattle.tree_lists.specs.Numbered.{numbered_list, numbered_list_law}
use Rattle.tree_answers.specs.First.{choice_verdict}
use Rattle.tree_deciding.specs.declared.ConditionRefusal.TheVariants.{Deciding, Tree}
use Rattle.tree_deciding.specs.Answer.{of_deciding, of_tree, ◌or_next◌, choice_validity, unless_refused, tree_over, choice_found, choice_answer, ChoiceNo, ChoiceLeaves, DecidesChoice}
use Rattle.tree_deciding.specs.Identifiers.{identifiers_picked}

-- what deciding the list of choice k answers, as an answer on the tree
abbrev pub as_tree_answer_lem : ℕ → Result Answer Refusal → Result (Option ℕ) ConditionRefusal
as_tree_answer_lem k (Ok decide.Yes) = Ok (Some k)
as_tree_answer_lem k (Ok decide.No) = Ok None
as_tree_answer_lem k (Err r) = Err (Deciding r)

-- a list M decided as that of choice k
pub record DecidesListed (n : ℕ) (M : List ℤ) (k : ℕ) (answer : Result (Option ℕ) ConditionRefusal) (b a : Lent) : Type 0 where
  pub found : Result Answer Refusal
  pub decided : Decided n M found b a
  pub is : answer ≡ as_tree_answer_lem k found

pub listed_decides : {n : ℕ} {M N : List ℤ} {k : ℕ} {x : Result Answer Refusal} {answer : Result (Option ℕ) ConditionRefusal} {b a : Lent} → N ≡ M → Decided n N x b a → answer ≡ as_tree_answer_lem k x → DecidesListed n M k answer b a
listed_decides {n} {M} {N} {k} {x} {answer} {b} {a} e d i = record { found = x; decided = subst (λ (P : List ℤ). Decided n P x b a) e d; is = i }

module _ (n : ℕ) (L : List ℤ) (s : List ℕ) (k : ℕ) (b : Lent) where
  pub list_refused : (r : Refusal) → validity_of n L ≡ Err r → DecidesChoice n L s k (Err (Deciding r)) b b
  unfolding choice_answer choice_validity
  list_refused r e = record { is = sym (rw e); leaves = refl }

  module _ (valid : validity_of n L ≡ Ok tt) where
    pub tree_refused : (r : TreeRefusal) → choice_of s (line_count L) k ≡ Err r → DecidesChoice n L s k (Err (Tree r)) b b
    unfolding choice_answer choice_validity
    tree_refused r e = record { is = sym (rw (valid, e)); leaves = refl }

    module _ (root : Node) (read : choice_of s (line_count L) k ≡ Ok root) where
      abbrev tree : Row
      tree = tree_over L s

      abbrev listed : List ℤ
      listed = choice_list L tree k

      list_is : numbered_list s L root.choices k ≡ listed
      list_is = let r = choice_read s (line_count L) k root read in numbered_list_law s L root r.0 k r.1

      -- the list of the choice is valid, so that deciding it refuses but 7 and 8
      answer_is : as_tree_answer_lem k (decide_answer n listed (lengths_of b)) ≡ choice_answer n L s k (lengths_of b)
      unfolding decide_answer decide_validity_lem choice_answer choice_validity
      answer_is =
          let rooms : Result Unit Refusal = rooms_validity n (lengths_of b) in
          let verdict : Bool = choice_verdict n L tree k in
          ap (λ (v : Result Unit Refusal). as_tree_answer_lem k (decided.unless_refused (v or_else rooms) (cond verdict (Ok decide.Yes) (Ok decide.No)))) (choice_valid n L tree k valid)
          ∙ go rooms verdict
          ∙ sym (ap₂ (λ (v : Result Unit Refusal) (r : Result Node TreeRefusal). unless_refused (of_deciding v or_next of_tree r or_next of_deciding rooms) (choice_found k verdict)) valid read)
        where
          go : (v : Result Unit Refusal) (t : Bool) → as_tree_answer_lem k (decided.unless_refused v (cond t (Ok decide.Yes) (Ok decide.No))) ≡ unless_refused (of_deciding v) (choice_found k t)
          go (Ok _) true = refl
          go (Ok _) false = refl
          go (Err r) t = refl

      no_leaves : {a : Lent} → OnNo n listed b a → ChoiceNo n L tree k b a
      unfolding choice_list
      no_leaves {a} l =
          record {
            leaves = l;
            identifiers = l.identifiers
                ∙ ap (λ (i : List ℕ). i ++ drop (steps_in l.numbers) b.identifiers) (identifiers_picked (choice_flags L tree k) L l.numbers l.due.refutes);
          }

      leaves_by : (x : Result Answer Refusal) (a : Lent) → Leaves n listed x b a → ChoiceLeaves n L tree k (as_tree_answer_lem k x) b a
      leaves_by (Ok decide.Yes) a l = l
      leaves_by (Ok decide.No) a l = no_leaves l
      leaves_by (Err r) a l = l

      pub decides : {answer : Result (Option ℕ) ConditionRefusal} {a : Lent} → DecidesListed n (numbered_list s L root.choices k) k answer b a → DecidesChoice n L s k answer b a
      decides {answer} {a} d =
          let on : Decided n listed d.found b a = subst (λ (M : List ℤ). Decided n M d.found b a) list_is d.decided in
          subst (λ (x : Result (Option ℕ) ConditionRefusal). DecidesChoice n L s k x b a) (sym d.is)
          (record { is = ap (as_tree_answer_lem k) on.is ∙ answer_is; leaves = leaves_by d.found a on.leaves })
