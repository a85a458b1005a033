-- What `put_step` does to the stored distances of a list of steps: they become those of the list with the step, and all that the next insertion
-- asks holds again. So insertions can follow each other, and no bound grows.
use Rattle.std.specs.Prelude.{◌≡◌, true, List, [], ◌∷◌, ◌++◌, ℕ, ◌*◌, ◌≤◌, ℤ, length}
use Rattle.std.proofs.Common.{sym, ap, ◌∙◌, inl, inr, ⊎_elim, mul-le-mul_right, arith}
use Rattle.lines.specs.Limits.{max_variables}
use Rattle.steps.specs.declared.Step.{Step}
use Rattle.steps.specs.Step.{max_weight}
use Rattle.theory_walks.specs.Row.{WithinPoints, best}
use Rattle.theory_walks.specs.Least.{NoneNegative}
use Rattle.theory_walks.specs.Negative.{not_below0, no_negative, no_negative_yes}
use Rattle.theory_walks.specs.Size as size
use Rattle.theory_walks.specs.Size.{WithinWeights, best_within}
use Rattle.theory_bounds.specs.Tight.{Table}
use Rattle.decide_rows.specs.Read.{distance_of, Short, max_distance, short_more}
use Rattle.decide_rows.specs.Table.{stored_table, table_length, stored_at}
use Rattle.decide_rows.specs.Numbers.{StepOk}
use Rattle.decide_stored_table.specs.Sum.{read_back}
use Rattle.decide_stored_table.specs.Table.{table_of, ShortTable}
use Rattle.theory_bounds.specs.Agree.{Agree}
use Rattle.theory_inserting.specs.Members.{in_either}
use Rattle.theory_inserting.specs.Insert.{closing, within_more, insert_best, insert_test}
use Rattle.theory_inserting.specs.Two.{closing_same}
use Rattle.theory_inserting.specs.Where.{inserted_where, where_inserted, where_same}
use Rattle.session_step.specs.Read.{small_table, small_agree}
use Rattle.session_step.specs.Written.{written_same, stored_written}
use Rattle.session_step.specs.Done.{step_after, after_plain}

-- t holds the distances of the steps E, which have no closed walk of negative sum
pub record TableFor (n : ℕ) (E : List Step) (t : List ℤ) : Type 0 where
  pub few : n ≤ max_variables
  pub within : WithinPoints (2 * n) E
  pub small : WithinWeights max_weight E
  pub nonneg : NoneNegative E (2 * n)
  pub is : t ≡ stored_table E (2 * n) (2 * n)

-- ---- the distances are small, and stored and read back without loss
pub best_small : (n : ℕ) (E : List Step) → n ≤ max_variables → WithinWeights max_weight E → (u v : ℕ) → Short max_distance (best E (2 * n) u v)
best_small n E few small u v z e =
    let m : 2 * n ≤ 2 * max_variables = omega arith in
    size.within_more (mul-le-mul_right max_weight m) (best_within max_weight E small (2 * n) u v z e)

module _ (n : ℕ) (E : List Step) (t : List ℤ) (a : TableFor n E t) where
  pub agree : Agree (2 * n) (table_of (2 * n) t) (best E (2 * n))
  agree u v hu hv =
      ap (λ (x : List ℤ). table_of (2 * n) x u v) a.is
      ∙ ap distance_of (stored_at E (2 * n) u v hu hv)
      ∙ read_back (best E (2 * n) u v) (short_more (omega arith) (best_small n E a.few a.small u v))

  pub short_table : ShortTable n t
  short_table =
      record {
        variables = a.few;
        size = ap length a.is ∙ table_length E (2 * n) (2 * n);
        short = λ u v hu hv. rw (agree u v hu hv) (best_small n E a.few a.small u v);
      }

-- ---- one more step
module _ (n : ℕ) (E : List Step) (t : List ℤ) (a : TableFor n E t) (s : Step) (ready : StepOk n s) where
  abbrev N : ℕ
  N = 2 * n

  abbrev D : Table
  D = table_of N t

  -- E and the step
  abbrev F : List Step
  F = E ++ s ∷ []

  closing_is : not_below0 (closing (small_table (2 * n) t) s) ≡ not_below0 (closing (best E N) s)
  closing_is =
      ap not_below0 (closing_same N (small_table N t) D (small_agree n t (short_table n E t a)) s ready.from_lt ready.to_lt ∙ closing_same N D (best E N) (agree n E t a) s ready.from_lt ready.to_lt)

  -- the step closes no walk of negative sum exactly if E and the step have none
  pub step_answer : not_below0 (closing (small_table (2 * n) t) s) ≡ no_negative F N
  step_answer = closing_is ∙ sym (insert_test E N a.within a.nonneg s ready.from_lt ready.to_lt)

  small_more : WithinWeights max_weight F
  small_more t i = ⊎_elim (λ j. a.small t j) (λ j. own t j) (in_either E (s ∷ []) t i)
    where
      own : WithinWeights max_weight (s ∷ [])
      own t (inl e) = rw e ready.small
      own t (inr j) = absurd j

  -- then the table is that of E and the step, ready for the next
  pub step_table : no_negative (E ++ s ∷ []) (2 * n) ≡ true → TableFor n (E ++ s ∷ []) (step_after (2 * n) s t)
  step_table e =
      record {
        few = a.few;
        within = within_more E N a.within a.nonneg s ready.from_lt ready.to_lt;
        small = small_more;
        nonneg = no_negative_yes F N e;
        is = after_plain n s t (short_table n E t a) ready ∙ written_same N (inserted_where D s) (best F N) put_in N (omega arith) ∙ sym (stored_written F N N);
      }
    where
      put_in : Agree N (inserted_where D s) (best F N)
      put_in u v hu hv =
          where_same N D (best E N) (agree n E t a) s ready.from_lt ready.to_lt u v hu hv
          ∙ where_inserted E N a.within a.nonneg s u v
          ∙ sym (insert_best E N a.within a.nonneg s ready.from_lt ready.to_lt (sym closing_is ∙ step_answer ∙ e) u v)
