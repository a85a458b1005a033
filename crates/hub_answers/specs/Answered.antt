-- What is asked before a list with one hub is answered, and what the answer says.
use Rattle.std.specs.Prelude.{◌≡◌, refl, Bool, true, false, List, ◌++◌, ℕ, ◌*◌, ◌<◌, ◌≤◌, ℤ, pos, length, drop}
use Rattle.std.proofs.Common.{sym, ap, subst, ◌∙◌, arith, SFits}
use Rattle.std.specs.Int.{w32}
use Rattle.integers.specs.Integer.{Within}
use Rattle.integers.specs.Laws.{never}
use Rattle.integers.specs.Sequence.{tabulate, get_d_tabulate}
use Rattle.lines.specs.Line.{assignment_of, line_count, lines_of}
use Rattle.lines.specs.Valid.{Workable, Modellable, modellable_works}
use Rattle.theory_bounds.specs.Verdict.{has_false, first_false_lem, verdict_of}
use Rattle.theory_bounds.specs.Answers.{model_of, bounds_of, groups_of}
use Rattle.theory_hub.specs.Hub.{Weights, answerable, hub_model, hub_bound_lem, own_group}
use Rattle.theory_hub.specs.Written.{hub_yes, hub_model_law, hub_bounds, hub_groups}
use Rattle.decide_false_line.specs.False.{false_found}
use Rattle.engine_packed_steps.specs.Scratch.{Scratch}
use Rattle.decide_model.specs.Limit.{max_model, value_fits}
use Rattle.decide_yes.specs.Table.{model_within}
use Rattle.hub_weights.specs.Weights.{weights_end, weights_in, WeightsLaid, weighs_short}
use Rattle.hub_limits.specs.Ready.{WeightsShort}

pub record HubAsked (n : ℕ) (L model bounds : List ℤ) (groups : List ℕ) (w : List ℤ) : Type 0 where
  pub valid : Modellable n L
  pub model_room : n ≤ length model
  pub bounds_room : 2 * n ≤ length bounds
  pub groups_room : 2 * n ≤ length groups
  pub work_room : weights_end n ≤ length w

-- on yes the model, the bounds and the groups are written
pub record HubYes (n : ℕ) (L m bs : List ℤ) (g : List ℕ) (m' bs' : List ℤ) (g' : List ℕ) : Type 0 where
  pub verdict : verdict_of n (lines_of L) ≡ true
  pub model : m' ≡ model_of n (lines_of L) ++ drop n m
  pub bounds : bs' ≡ bounds_of n (lines_of L) ++ drop (2 * n) bs
  pub groups : g' ≡ groups_of n (lines_of L) ++ drop (2 * n) g

-- of no nothing is said, but that the three stay as they are
pub record HubAnswered (n : ℕ) (L m bs : List ℤ) (g : List ℕ) (w m' bs' : List ℤ) (g' : List ℕ) (w' : List ℤ) (r : Bool) : Type 0 where
  pub scratch : Scratch 0 (weights_end n) w w'
  pub on_yes : r ≡ true → HubYes n L m bs g m' bs' g'
  pub on_no : r ≡ false → (m' ≡ m) × (bs' ≡ bs) × (g' ≡ g)

-- ---- from the weights
pub record WeightsAsked (n : ℕ) (w model bounds : List ℤ) (groups : List ℕ) : Type 0 where
  pub weights : WeightsShort n w
  pub some_variable : 1 ≤ n
  pub fits : answerable n (weights_in n w) ≡ true → (x : ℕ) → x < n → SFits w32 (hub_model n (weights_in n w) x)
  pub model_room : n ≤ length model
  pub bounds_room : 2 * n ≤ length bounds
  pub groups_room : 2 * n ≤ length groups

pub record HubWritten (n : ℕ) (w m bs : List ℤ) (g : List ℕ) (m' bs' : List ℤ) (g' : List ℕ) : Type 0 where
  pub model : m' ≡ tabulate n (hub_model n (weights_in n w)) ++ drop n m
  pub bounds : bs' ≡ tabulate (2 * n) (hub_bound_lem n (weights_in n w)) ++ drop (2 * n) bs
  pub groups : g' ≡ tabulate (2 * n) own_group ++ drop (2 * n) g

pub record WeightsAnswered (n : ℕ) (w m bs : List ℤ) (g : List ℕ) (m' bs' : List ℤ) (g' : List ℕ) (r : Bool) : Type 0 where
  pub is : r ≡ answerable n (weights_in n w)
  pub on_yes : r ≡ true → HubWritten n w m bs g m' bs' g'
  pub on_no : r ≡ false → (m' ≡ m) × (bs' ≡ bs) × (g' ≡ g)

module _ {n : ℕ} {w m bs : List ℤ} {g : List ℕ} where
  pub unanswered : false ≡ answerable n (weights_in n w) → WeightsAnswered n w m bs g m bs g false
  unanswered e = record { is = e; on_yes = λ q. never (cc); on_no = λ q. (refl, refl, refl) }

  pub all_written : {m' bs' : List ℤ} {g' : List ℕ} → true ≡ answerable n (weights_in n w) → HubWritten n w m bs g m' bs' g' → WeightsAnswered n w m bs g m' bs' g' true
  all_written e h = record { is = e; on_yes = λ q. h; on_no = λ q. never (cc) }

-- ---- from the list
module _ {n : ℕ} {L m bs : List ℤ} {g : List ℕ} {w w₁ : List ℤ} where
  pub not_answered : Scratch 0 (weights_end n) w w₁ → HubAnswered n L m bs g w m bs g w₁ false
  not_answered s = record { scratch = s; on_yes = λ q. never (cc); on_no = λ q. (refl, refl, refl) }

  module _ (a : HubAsked n L m bs g w) (some_variable : 1 ≤ n) {r : Bool} (laid : WeightsLaid n L w w₁ r) (one-hub : r ≡ true) where
    works : Workable n L
    works = modellable_works n L a.valid

    weights_short : WeightsShort n w₁
    weights_short = record { few = works.variables; room = omega (arith, a.work_room, laid.scratch.same_length); short = weighs_short works (laid.weighs one-hub) }

    -- no line is false
    module _ (clear : line_count L ≤ first_false_lem 0 (lines_of L)) where
      no_false : has_false (lines_of L) ≡ false
      no_false = go (has_false (lines_of L)) refl
        where
          go : (b : Bool) → has_false (lines_of L) ≡ b → b ≡ false
          go true e = absurd (omega (arith, false_found L e, clear))
          go false e = refl

      abbrev W : Weights
      W = weights_in n w₁

      -- what is written is the model, whose values are small
      model_fits : answerable n W ≡ true → (x : ℕ) → x < n → SFits w32 (hub_model n W x)
      model_fits can x h =
          let e : assignment_of (model_of n (lines_of L)) x ≡ hub_model n W x = ap (λ (l : List ℤ). assignment_of l x) (sym (hub_model_law n L works some_variable W (laid.weighs one-hub) no_false can)) ∙ get_d_tabulate n x (hub_model n W) (pos 0) h in
          value_fits (hub_model n W x) (subst (Within max_model) e (model_within n L works (hub_yes n L works some_variable W (laid.weighs one-hub) no_false can) a.valid x h))

      pub weights_asked : WeightsAsked n w₁ m bs g
      weights_asked = record { weights = weights_short; some_variable = some_variable; fits = model_fits; model_room = a.model_room; bounds_room = a.bounds_room; groups_room = a.groups_room }

      pub hub_answered : {m' bs' : List ℤ} {g' : List ℕ} {t : Bool} → WeightsAnswered n w₁ m bs g m' bs' g' t → HubAnswered n L m bs g w m' bs' g' w₁ t
      hub_answered {m'} {bs'} {g'} {t} h = record { scratch = laid.scratch; on_yes = said; on_no = h.on_no }
        where
          said : t ≡ true → HubYes n L m bs g m' bs' g'
          said e =
              let can : answerable n W ≡ true = sym h.is ∙ e in
              let f = h.on_yes e in
              record {
                verdict = hub_yes n L works some_variable W (laid.weighs one-hub) no_false can;
                model = f.model ∙ ap (λ (x : List ℤ). x ++ drop n m) (hub_model_law n L works some_variable W (laid.weighs one-hub) no_false can);
                bounds = f.bounds ∙ ap (λ (x : List ℤ). x ++ drop (2 * n) bs) (hub_bounds n L works some_variable W (laid.weighs one-hub) no_false can);
                groups = f.groups ∙ ap (λ (x : List ℕ). x ++ drop (2 * n) g) (hub_groups n L works some_variable W (laid.weighs one-hub) no_false can);
              }
