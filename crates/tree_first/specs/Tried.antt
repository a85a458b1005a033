-- Trying one choice after the other: what each try and the search ask and leave, and that the first one found is the first with a solution.
use Rattle.tree_deciding.specs.declared.ConditionRefusal.{ConditionRefusal}
use Rattle.std.specs.Prelude.{◌≡◌, refl, Bool, true, false, not, List, ◌++◌, ℕ, ◌+◌, ◌<◌, ◌≤◌, ℤ, length, drop, replicate, Ok, Option, Result}
use Rattle.std.proofs.Common.{sym, ap, ◌∙◌, arith}
use Rattle.std.proofs.lemmas.Bool.{not-true, not-false}
use Rattle.std.proofs.lemmas.List.{length-replicate}
use Rattle.integers.specs.Lowest.{lowest, Searched, searched_none, searched_more, searched_found, searched_all}
use Rattle.lines.specs.Limits.{max_variables}
use Rattle.lines.specs.Line.{line_count, lines_of}
use Rattle.lines.specs.Refusal.{validity_of}
use Rattle.lines.specs.Valid.{valid_list, workable, modellable}
use Rattle.theory_bounds.specs.Answers.{model_of}
use Rattle.decide_buffers.specs.Room.{model_room_lem, refutation_room_lem}
use Rattle.decide.specs.Searched.{used_room}
use Rattle.decide.specs.Modelled.{ModelAsked, Modelled}
use Rattle.tree_reading.specs.declared.Kind.TheVariants.{AllOf}
use Rattle.tree_reading.specs.Tree.{Row}
use Rattle.tree_reading.specs.Choices.{count}
use Rattle.tree_reading.specs.declared.Node.{Node}
use Rattle.tree_reading.specs.Reading.{valid_tree_lem}
use Rattle.tree_reading.specs.Taken.{taken}
use Rattle.tree_lists.specs.Condition.{choice_list, choice_valid}
use Rattle.tree_lists.specs.Numbered.{numbered_list, numbered_list_law}
use Rattle.tree_answers.specs.First.{choice_verdict, first_choice}
use Rattle.tree_deciding.specs.Answer.{tree_over, first_found_lem, model_left}
use Rattle.tree_deciding.specs.Found.{found_yes, found_no}

-- a valid list, a tree over it that has so many choices, and room
pub record TryAsked (n : ℕ) (L : List ℤ) (s : List ℕ) (total : ℕ) (model work : List ℤ) : Type 0 where
  pub list : validity_of n L ≡ Ok tt
  pub root : Node
  pub read : valid_tree_lem s (line_count L) ≡ Ok root
  pub total_is : total ≡ root.choices
  pub model_room : model_room_lem n ≤ length model
  pub work_room : used_room n ≤ length work

-- whether choice k has a solution; before model and work, after model' and work'
pub record Tried (n : ℕ) (L : List ℤ) (t : Row) (k : ℕ) (model work : List ℤ) (found : Bool) (model' work' : List ℤ) : Type 0 where
  pub verdict : choice_verdict n L t k ≡ found
  pub on_yes : found ≡ true → model' ≡ model_of n (lines_of (choice_list L t k)) ++ drop (model_room_lem n) model
  pub on_no : found ≡ false → model' ≡ model
  pub same_length : length work' ≡ length work
  pub behind : drop (used_room n) work' ≡ drop (used_room n) work

-- the first choice with a solution, or their number
pub record FirstTried (n : ℕ) (L : List ℤ) (t : Row) (model work : List ℤ) (first : ℕ) (model' work' : List ℤ) : Type 0 where
  pub is : first ≡ first_choice n L t
  pub model_left_law : model' ≡ model_left n L t (first_found_lem (count AllOf t) first) model
  pub same_length : length work' ≡ length work
  pub behind : drop (used_room n) work' ≡ drop (used_room n) work

-- in the search: no choice before i has a solution, and the model is as it was
pub record Trying (n : ℕ) (L : List ℤ) (t : Row) (total : ℕ) (model work : List ℤ) (i : ℕ) (model' work' : List ℤ) : Type 0 where
  pub below : i ≤ total
  pub searched : Searched (choice_verdict n L t) total i
  pub same_model : model' ≡ model
  pub model_length : length model' ≡ length model
  pub same_length : length work' ≡ length work
  pub behind : drop (used_room n) work' ≡ drop (used_room n) work

module _ (n : ℕ) (L : List ℤ) (s : List ℕ) (total : ℕ) (model work : List ℤ) (a : TryAsked n L s total model work) where
  abbrev tree : Row
  tree = tree_over L s

  pub counted : total ≡ count AllOf tree
  counted = a.total_is ∙ (taken s (line_count L) a.root a.read).counted

  -- ---- a try
  module _ (k : ℕ) (below : k < total) where
    pub list_is : numbered_list s L total k ≡ choice_list L tree k
    list_is = ap (λ (c : ℕ). numbered_list s L c k) a.total_is ∙ numbered_list_law s L a.root a.read k (omega (arith, a.total_is))

    -- no refutation is asked for, so that zeros are lent for it
    pub model_asked : ModelAsked n (choice_list L tree k) model (replicate (refutation_room_lem max_variables) 0) work
    model_asked =
        record {
          search =
              record {
                valid = workable n (choice_list L tree k) (choice_valid n L tree k a.list);
                room = omega (arith, length-replicate {A = ℕ} (refutation_room_lem max_variables) 0, (valid_list n L a.list).variables);
                work_room = a.work_room;
              };
          modellable = modellable n (choice_list L tree k) (choice_valid n L tree k a.list);
          room = a.model_room;
        }

    pub tried : {R R' : List ℕ} {model' work' : List ℤ} {refuted : Bool} → Modelled n (choice_list L tree k) model R work model' R' work' refuted
        → (found : Bool) → found ≡ not refuted → Tried n L tree k model work found model' work'
    tried {refuted = refuted} m found e =
        record {
          verdict = m.searched.verdict ∙ sym e;
          on_yes = λ y. m.on_yes (not-true refuted (sym e ∙ y));
          on_no = λ y. m.on_no (not-false refuted (sym e ∙ y));
          same_length = m.searched.same_length;
          behind = m.searched.behind;
        }

  -- ---- the search
  pub none_tried : Trying n L tree total model work 0 model work
  none_tried = record { below = omega arith; searched = searched_none (choice_verdict n L tree) total; same_model = refl; model_length = refl; same_length = refl; behind = refl }

  abbrev verdicts : ℕ → Bool
  verdicts = choice_verdict n L tree

  module _ (i : ℕ) {model' work' : List ℤ} (t : Trying n L tree total model work i model' work') where
    pub asked_still : TryAsked n L s total model' work'
    asked_still =
        record {
          list = a.list;
          root = a.root;
          read = a.read;
          total_is = a.total_is;
          model_room = omega (arith, a.model_room, t.model_length);
          work_room = omega (arith, a.work_room, t.same_length);
        }

    module _ (below : i < total) {found : Bool} {model'' work'' : List ℤ} (r : Tried n L tree i model' work' found model'' work'') where
      pub one_more : found ≡ false → Trying n L tree total model work (i + 1) model'' work''
      one_more e =
          record {
            below = omega arith;
            searched = searched_more verdicts total i below (r.verdict ∙ e) t.searched;
            same_model = r.on_no e ∙ t.same_model;
            model_length = ap length (r.on_no e ∙ t.same_model);
            same_length = r.same_length ∙ t.same_length;
            behind = r.behind ∙ t.behind;
          }

      pub found_first : found ≡ true → FirstTried n L tree model work i model'' work''
      found_first e =
          record {
            is = searched_found verdicts total i below (r.verdict ∙ e) t.searched ∙ ap (lowest verdicts 0) counted;
            model_left_law = r.on_yes e
                ∙ ap (λ (m : List ℤ). model_of n (lines_of (choice_list L tree i)) ++ drop (model_room_lem n) m) t.same_model
                ∙ sym (ap (λ (x : Result (Option ℕ) ConditionRefusal). model_left n L tree x model) (found_yes (count AllOf tree) i (omega (arith, counted))));
            same_length = r.same_length ∙ t.same_length;
            behind = r.behind ∙ t.behind;
          }

    pub all_tried : total ≤ i → FirstTried n L tree model work i model' work'
    all_tried h =
        record {
          is = searched_all verdicts total i (omega (arith, t.below)) t.searched ∙ ap (lowest verdicts 0) counted;
          model_left_law = t.same_model ∙ sym (ap (λ (x : Result (Option ℕ) ConditionRefusal). model_left n L tree x model) (found_no (count AllOf tree) i (omega (arith, counted))));
          same_length = t.same_length;
          behind = t.behind;
        }
