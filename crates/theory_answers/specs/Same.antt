-- Answers depend on the solutions alone: what is written for a list is written for every list with the same solutions.
use Rattle.std.specs.Prelude.{◌≡◌, refl, Bool, true, false, List, ℕ, ℤ}
use Rattle.std.proofs.Common.{sym, inl, inr}
use Rattle.lines.specs.declared.Line.{Line}
use Rattle.lines.specs.Line.{Assignment, lines_of, Entails, SameSolutions}
use Rattle.lines.specs.Valid.{Workable}
use Rattle.theory_answers.specs.Semantics.{IsModel, Form, LeastWritten, GreatestWritten, Written}
use Rattle.theory_bounds.specs.Verdict.{verdict_of}
use Rattle.theory_bounds.specs.Answers.{model_of, bounds_of, groups_of}
use Rattle.theory_answers.specs.Meaning.{computed_written}
use Rattle.theory_answers.specs.Decided.{lines_ok}
use Rattle.theory_answers.specs.Unique.{written_model, written_bounds, written_groups}
use Rattle.theory_answers.specs.Longer.{no_stays, yes_before}

-- every notion of `Written` speaks of solutions only
module _ (ls ms : List Line) (same : SameSolutions ls ms) where
  to : Entails ls ms
  to s = (same s).0

  from : Entails ms ls
  from s = (same s).1

  least_too : {x : ℕ} {z : ℤ} → LeastWritten ls x z → LeastWritten ms x z
  least_too (inl a) = inl (record { bounds = λ t h. a.bounds t (from t h); taken_by = a.taken_by; solves = to _ a.solves; taken = a.taken })
  least_too (inr a) = inr (record { beyond = λ z. let t = a.0.beyond z in (t.0, to _ t.1, t.2) }, a.1)

  pub greatest_too : {form : Form} {z : ℤ} → GreatestWritten ls form z → GreatestWritten ms form z
  greatest_too (inl a) = inl (record { bounds = λ t h. a.bounds t (from t h); taken_by = a.taken_by; solves = to _ a.solves; taken = a.taken })
  greatest_too (inr a) = inr (record { beyond = λ z. let t = a.0.beyond z in (t.0, to _ t.1, t.2) }, a.1)

  pub model_too : {n : ℕ} {m : Assignment} → IsModel n ls m → IsModel n ms m
  model_too i = record { solves = to _ i.solves; nearest = λ k h t s a. i.nearest k h t (from t s) a }

  pub written_too : {n : ℕ} {m b : List ℤ} {g : List ℕ} → Written n ls m b g → Written n ms m b g
  written_too w =
      record {
        model_length = w.model_length;
        model_is = model_too w.model_is;
        bounds_length = w.bounds_length;
        least_is = λ x h. least_too (w.least_is x h);
        greatest_is = λ x h. greatest_too (w.greatest_is x h);
        groups_length = w.groups_length;
        group_is = λ x h.
            let g = w.group_is x h in
            record { a_sign = g.a_sign; together = λ t s. g.together t (from t s); lowest = λ q l u f. g.lowest q l u (λ t s. f t (to t s)); plus = λ f. g.plus (λ t s. f t (to t s)) };
      }

-- so two lists with the same solutions have one verdict, and on a yes one model, bounds and groups
module _ (n : ℕ) (L M : List ℤ) (valid : Workable n L) (valid' : Workable n M) (same : SameSolutions (lines_of L) (lines_of M)) where
  pub same_verdict : verdict_of n (lines_of L) ≡ verdict_of n (lines_of M)
  same_verdict = go (verdict_of n (lines_of L)) refl
    where
      go : (t : Bool) → verdict_of n (lines_of L) ≡ t → t ≡ verdict_of n (lines_of M)
      go true e = sym (yes_before n M L valid' valid (λ s. (same s).0) e)
      go false e = sym (no_stays n L M valid valid' (λ s. (same s).1) e)

  pub same_written : verdict_of n (lines_of L) ≡ true
      → (model_of n (lines_of L) ≡ model_of n (lines_of M)) × (bounds_of n (lines_of L) ≡ bounds_of n (lines_of M)) × (groups_of n (lines_of L) ≡ groups_of n (lines_of M))
  same_written e =
      let w = written_too (lines_of L) (lines_of M) same (computed_written n (lines_of L) (lines_ok n L valid) e) in
      (written_model n M valid' _ _ _ w, written_bounds n M valid' _ _ _ w, written_groups n M valid' _ _ _ w)
