-- The search with the model behind it, for a list that deciding works on: a refutation, or the model from the table that the search left.
use Rattle.std.specs.Prelude.{◌≡◌, refl, Bool, true, false, List, ◌++◌, ℕ, ◌*◌, ◌≤◌, ℤ, length, drop}
use Rattle.std.proofs.Common.{sym, ap, subst, ◌∙◌}
use Rattle.integers.specs.Laws.{never}
use Rattle.integers.specs.Sequence.{tabulate}
use Rattle.lines.specs.Line.{lines_of}
use Rattle.lines.specs.Valid.{Workable, Modellable}
use Rattle.theory_bounds.specs.Table.{table_model}
use Rattle.theory_bounds.specs.Answers.{model_of}
use Rattle.decide_buffers.specs.Room.{model_room_lem}
use Rattle.decide_stored_table.specs.Table.{table_of}
use Rattle.decide_model.specs.Written.{ModelReady}
use Rattle.decide_yes.specs.Table.{table_for, short_table, model_agrees, table_closed, model_ready}
use Rattle.decide.specs.Searched.{SearchReady, Searched, table_in}

pub record ModelAsked (n : ℕ) (L model : List ℤ) (R : List ℕ) (w : List ℤ) : Type 0 where
  pub search : SearchReady n L R w
  pub modellable : Modellable n L
  pub room : model_room_lem n ≤ length model

-- before: model, R and w; after: model', R' and w'
pub record Modelled (n : ℕ) (L model : List ℤ) (R : List ℕ) (w model' : List ℤ) (R' : List ℕ) (w' : List ℤ) (refuted : Bool) : Type 0 where
  pub searched : Searched n L R w R' w' refuted
  pub on_no : refuted ≡ true → model' ≡ model
  pub on_yes : refuted ≡ false → model' ≡ model_of n (lines_of L) ++ drop (model_room_lem n) model

module _ (n : ℕ) (L model : List ℤ) (R : List ℕ) (w : List ℤ) (a : ModelAsked n L model R w) where
  abbrev ok : Workable n L
  ok = a.search.valid

  module _ (R₁ : List ℕ) (w₁ : List ℤ) where
    pub refuted_only : {refuted : Bool} → Searched n L R w R₁ w₁ refuted → refuted ≡ true → Modelled n L model R w model R₁ w₁ true
    refuted_only k e = record { searched = subst (Searched n L R w R₁ w₁) e k; on_no = λ _. refl; on_yes = λ z. never (cc) }

    module _ (k : Searched n L R w R₁ w₁ false) where
      table_is : table_in n w₁ ≡ table_for n L
      table_is = (k.on_yes refl).1

      pub model_asked : ModelReady n (table_in n w₁) model
      model_asked =
          subst (λ (t : List ℤ). ModelReady n t model) (sym table_is)
          (record { table = short_table n L ok.variables ok.lines; closed = table_closed n L ok k.verdict; room = a.room; small = model_ready n L ok k.verdict a.modellable })

      pub modelled : (m : List ℤ) → m ≡ tabulate n (table_model n (table_of (2 * n) (table_in n w₁))) ++ drop (model_room_lem n) model → Modelled n L model R w m R₁ w₁ false
      modelled m h =
          record {
            searched = k;
            on_no = λ z. never (cc);
            on_yes = λ _.
                h ∙ ap (λ (x : List ℤ). x ++ drop (model_room_lem n) model) (ap (λ (q : List ℤ). tabulate n (table_model n (table_of (2 * n) q))) table_is ∙ model_agrees n L ok.variables ok.lines);
          }
