-- How a list of differences comes to its answer: the search, which refutes it or leaves potentials; on a yes the table of distances and what is written from
-- it; then the work area is cleared.
use Rattle.std.specs.Prelude.{◌≡◌, refl, Bool, true, false, not, List, ◌++◌, ℕ, ◌+◌, ◌*◌, ◌≤◌, ℤ, pos, length, take, drop, Ok}
use Rattle.std.proofs.Common.{sym, ap, ◌∙◌, mul-le-mul_right, arith, length-take-le, get_or-take}
use Rattle.integers.specs.Laws.{never}
use Rattle.integers.specs.Sequence.{tabulate}
use Rattle.lines.specs.Limits.{max_variables}
use Rattle.lines.specs.Line.{lines_of}
use Rattle.lines.specs.Valid.{Modellable, modellable}
use Rattle.check_soundness.specs.Head.{steps_in}
use Rattle.theory_bounds.specs.Verdict.{verdict_of, due_kind}
use Rattle.theory_bounds.specs.Table.{table_model}
use Rattle.theory_bounds.specs.Answers.{model_of, bounds_of, group_at_lem, groups_of}
use Rattle.theory_differences.specs.Distances.{doubled}
use Rattle.theory_differences.specs.Doubled.{absent_at}
use Rattle.theory_differences.specs.Answers.{verdict_plain, kind_plain}
use Rattle.decide_buffers.specs.Room.{Lent, lengths_of, model_room_lem, bounds_room_lem, groups_room_lem, differences_work_room_lem, model_room, bounds_room, groups_room, refutation_room, identifiers_room, work_room}
use Rattle.decide_identifiers.specs.Identifiers.{identifiers_of, StepsNamed}
use Rattle.decide_stored_table.specs.Table.{table_of}
use Rattle.engine_packed_steps.specs.Scratch.{Scratch, scratch_trans}
use Rattle.decide.specs.declared.Answer.TheVariants.{Yes, No}
use Rattle.decide.specs.Decided.{judged_yes, judged_no, Shows, shown_named, no_left, cleared_to, cleared_behind}
use Rattle.differences_lines.specs.PlainList.{PlainList, plain_ok}
use Rattle.differences_lines.specs.Refused.{DifferencesOk, differences_ok, plain_list}
use Rattle.differences_rows.specs.Layout.{plain_end, plain_room}
use Rattle.differences_search.specs.Searched.{SearchReady, PlainSearched}
use Rattle.differences_table.specs.Table.{TableReady, PlainTable}
use Rattle.differences_yes.specs.Ready.{PlainAnswersReady, PlainYes, plain_ready, plain_answers}
use Rattle.differences.specs.Decided.{plain_validity_for, DifferencesDecided, differences_judged}

-- ---- a refutation, or the model, the bounds and the groups
pub record AnswerReady (n : ℕ) (L model bounds : List ℤ) (groups R : List ℕ) (w : List ℤ) : Type 0 where
  pub search : SearchReady n L R w
  pub modelled : Modellable n L
  pub model_room : model_room_lem n ≤ length model
  pub bounds_room : bounds_room_lem n ≤ length bounds
  pub groups_room : groups_room_lem n ≤ length groups

-- before: model, bounds, groups, R and w; after: the same with a stroke
pub record Answered (n : ℕ) (L model bounds : List ℤ) (groups R : List ℕ) (w model' bounds' : List ℤ) (groups' R' : List ℕ) (w' : List ℤ) (refuted : Bool) : Type 0 where
  pub verdict : verdict_of n (lines_of L) ≡ not refuted
  pub on_no : refuted ≡ true → Shows n L R R' × (model' ≡ model) × (bounds' ≡ bounds) × (groups' ≡ groups)
  pub on_yes : refuted ≡ false
      → (R' ≡ R)
      × (model' ≡ model_of n (lines_of L) ++ drop (model_room_lem n) model)
      × (bounds' ≡ bounds_of n (lines_of L) ++ drop (bounds_room_lem n) bounds)
      × (groups' ≡ groups_of n (lines_of L) ++ drop (groups_room_lem n) groups)
  pub scratch : Scratch 0 (plain_end n) w w'

module _ {n : ℕ} {L model bounds : List ℤ} {groups R : List ℕ} {w : List ℤ} (a : AnswerReady n L model bounds groups R w) where
  abbrev plain : PlainList n L
  plain = a.search.plain

  module _ {R₁ : List ℕ} {w₁ : List ℤ} {r : Bool} (k : PlainSearched n L R w R₁ w₁ r) where
    verdict_is : verdict_of n (lines_of L) ≡ not r
    verdict_is = verdict_plain n (lines_of L) (plain_ok plain) plain.all ∙ k.clear

    -- the refutation is of the due kind, which is 1
    shown : r ≡ true → Shows n L R R₁
    shown e =
        let s = k.on_no e in
        let kind : due_kind n (lines_of L) ≡ 1 = kind_plain n (lines_of L) (plain_ok plain) plain.all s.negative in (
          s.shown.numbers,
          record {
            refutes = s.shown.refutes;
            kind = s.shown.kind_is ∙ sym kind;
            lowest = λ z. absurd (omega (arith, kind, z));
            few = λ _. omega (arith, s.shown.steps, s.few);
            size = omega (arith, s.shown.length_is, s.few);
          },
          s.shown.is,
        )

    pub answered_no : r ≡ true → Answered n L model bounds groups R w model bounds groups R₁ w₁ true
    answered_no e = record { verdict = verdict_is ∙ ap not e; on_no = λ _. (shown e, refl, refl, refl); on_yes = λ z. never (cc); scratch = k.scratch }

    module _ (e : r ≡ false) where
      pub table_ready : TableReady n L w₁
      table_ready = record { plain = plain; room = omega (arith, a.search.work_room, k.scratch.same_length); points = (k.on_yes e).1 }

      -- the table, in the part that is lent
      module _ {w₂ : List ℤ} (t : PlainTable n L w₁ w₂) where
        pub table_inside : n * n ≤ length w₂
        table_inside = omega (arith, table_ready.room, t.scratch.same_length)

        yes_table : PlainYes n L (take (n * n) w₂)
        yes_table =
            record {
              plain = plain;
              modelled = a.modelled;
              none_negative = k.clear ∙ ap not e;
              size = length-take-le (n * n) w₂ table_inside;
              entries = λ u v hu hv. get_or-take (n * n) w₂ (v * n + u) (pos 0) (omega (arith, mul-le-mul_right n hv)) ∙ t.entry u v hu hv;
            }

        pub answers_ready : PlainAnswersReady n (take (n * n) w₂) model bounds groups
        answers_ready = plain_ready yes_table model bounds groups a.model_room a.bounds_room a.groups_room

        pub answered_yes : (m bs : List ℤ) (g : List ℕ)
            → (m ≡ tabulate n (table_model n (doubled (table_of n (take (n * n) w₂)))) ++ drop (model_room_lem n) model)
            × (bs ≡ tabulate (2 * n) absent_at ++ drop (bounds_room_lem n) bounds)
            × (g ≡ tabulate (2 * n) (group_at_lem (doubled (table_of n (take (n * n) w₂)))) ++ drop (groups_room_lem n) groups)
            → Answered n L model bounds groups R w m bs g R₁ w₂ false
        answered_yes m bs g h =
            let x = plain_answers yes_table model bounds groups m bs g h in
            record { verdict = verdict_is ∙ ap not e; on_no = λ z. never (cc); on_yes = λ _. ((k.on_yes e).0, x.0, x.1, x.2); scratch = scratch_trans k.scratch t.scratch }

-- ---- the call, where nothing is refused
module _ (n : ℕ) (L : List ℤ) (b : Lent) (v : plain_validity_for n L b ≡ Ok tt) where
  ok : DifferencesOk n L (lengths_of b)
  ok = differences_ok n L (lengths_of b) v

  pub few : n ≤ max_variables
  few = (plain_list ok).works.variables

  pub answer_ready : AnswerReady n L b.model b.bounds b.groups b.refutation b.work
  answer_ready =
      record {
        search =
            record {
              plain = plain_list ok;
              room = omega (arith, refutation_room differences_work_room_lem ok.rooms);
              work_room = omega (arith, plain_room n, work_room differences_work_room_lem ok.rooms);
            };
        modelled = modellable n L ok.list;
        model_room = model_room differences_work_room_lem ok.rooms;
        bounds_room = bounds_room differences_work_room_lem ok.rooms;
        groups_room = groups_room differences_work_room_lem ok.rooms;
      }

  module _ (m bs : List ℤ) (g R₁ : List ℕ) (w₁ : List ℤ) {r : Bool} (k : Answered n L b.model b.bounds b.groups b.refutation b.work m bs g R₁ w₁ r) where
    pub room_left : differences_work_room_lem n ≤ length w₁
    room_left = omega (arith, work_room differences_work_room_lem ok.rooms, k.scratch.same_length)

    cleared_is : (w₂ : List ℤ) → w₂ ≡ cleared_to (differences_work_room_lem n) w₁ → w₂ ≡ cleared_to (differences_work_room_lem n) b.work
    cleared_is w₂ z = cleared_behind (plain_end n) (differences_work_room_lem n) (plain_room n) b.work w₁ w₂ k.scratch.behind z

    pub identifiers_ready : r ≡ true → StepsNamed L R₁ × (steps_in R₁ ≤ length b.identifiers)
    identifiers_ready e =
        shown_named n L (plain_list ok).works.lines b.refutation R₁ (k.on_no e).0 b.identifiers (identifiers_room differences_work_room_lem ok.rooms)

    module _ (w₂ : List ℤ) (z : w₂ ≡ cleared_to (differences_work_room_lem n) w₁) where
      pub decided_no : r ≡ true → (I : List ℕ) → I ≡ identifiers_of L R₁ ++ drop (steps_in R₁) b.identifiers
          → DifferencesDecided n L (Ok No) b (record { model = m; bounds = bs; groups = g; refutation = R₁; identifiers = I; work = w₂ })
      decided_no e I i =
          let f = k.on_no e in
          let x = no_left n L (plain_list ok).works.lines b.refutation R₁ f.0 (differences_work_room_lem n) b refl I i w₂ (cleared_is w₂ z) in
          record {
            is = judged_no n L (plain_validity_for n L b) v (k.verdict ∙ ap not e) ∙ sym (differences_judged n L b);
            leaves = record { numbers = x.numbers; due = x.due; refutation = x.refutation; identifiers = x.identifiers; model = f.1; bounds = f.2; groups = f.3; work = x.work };
          }

      pub decided_yes : r ≡ false → DifferencesDecided n L (Ok Yes) b (record { model = m; bounds = bs; groups = g; refutation = R₁; identifiers = b.identifiers; work = w₂ })
      decided_yes e =
          let f = k.on_yes e in
          record {
            is = judged_yes n L (plain_validity_for n L b) v (k.verdict ∙ ap not e) ∙ sym (differences_judged n L b);
            leaves = record { model = f.1; bounds = f.2; groups = f.3; refutation = f.0; identifiers = refl; work = cleared_is w₂ z };
          }
