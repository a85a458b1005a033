-- `show_line::found_shown` meets its contract: the list against the line is written where zeros stood, and searched.
use mathlib.Core.Path.{◌≡◌, refl, sym, ap, subst, ◌∙◌}
use mathlib.Core.List.{List, ◌++◌}
use Prim.Native.Nat.{ℕ}
use lib.IntN.{ℤ}
use lib.ListN.{drop}
use Rattle.lines.specs.declared.Line.{Line}
use Rattle.shown_list.specs.Against.{against}
use Rattle.check_shown.specs.Asked.{against_ready}
use Rattle.decide.specs.Searched.{SearchReady, Searched}
use Rattle.decide_identifiers.specs.Identifiers.{identifiers_of, StepsNamed}
use Rattle.check_soundness.specs.Head.{steps_in}
use Rattle.show_line.specs.Found.{search_ready, identifiers_ready, shown_found, open_found}
use Rattle.show_line.proofs.found_shown.Goals.{After-refuted, After-write_against}
use Rattle.show_line.proofs.found_shown.Goals as goal

pub write_against-requires : goal.write_against-requires
write_against-requires c = against_ready _ _ _ c.requires.asked _ refl

-- the list against the line is written
module _ (c : After-write_against) where
  abbrev n : ℕ
  n = c.args.n

  abbrev L : List ℤ
  L = c.args.list.now

  abbrev l : Line
  l = c.args.line

  abbrev written : List ℤ
  written = c.write_against.new.out

  is_against : written ≡ against L l
  is_against = c.write_against.ensures

pub refuted-requires : goal.refuted-requires
refuted-requires c =
    subst (λ (A : List ℤ). SearchReady (n (goal.at.refuted-requires c).After-write_against) A c.args.refutation.now c.args.work.now) (sym (is_against (goal.at.refuted-requires c).After-write_against)) (search_ready (n (goal.at.refuted-requires c).After-write_against) (L (goal.at.refuted-requires c).After-write_against) (l (goal.at.refuted-requires c).After-write_against) _ _ _ c.requires)

-- it is searched
module _ (c : After-refuted) where
  abbrev R : List ℕ
  R = c.refuted.new.refutation

  abbrev left : List ℤ
  left = c.refuted.new.work

  searched : Searched (n (goal.at.After-refuted c).After-write_against) (against (L (goal.at.After-refuted c).After-write_against) (l (goal.at.After-refuted c).After-write_against)) c.args.refutation.now c.args.work.now R left c.refuted.result
  searched = subst (λ (A : List ℤ). Searched (n (goal.at.After-refuted c).After-write_against) A c.args.refutation.now c.args.work.now R left c.refuted.result) (is_against (goal.at.After-refuted c).After-write_against) c.refuted.ensures

pub write_identifiers-requires : goal.write_identifiers-requires
write_identifiers-requires c =
    let ready = identifiers_ready (n (goal.at.write_identifiers-requires c).After-write_against) (L (goal.at.write_identifiers-requires c).After-write_against) (l (goal.at.write_identifiers-requires c).After-write_against) _ c.args.identifiers.now _ c.requires (R (goal.at.write_identifiers-requires c).After-refuted) (left (goal.at.write_identifiers-requires c).After-refuted) c.refuted.result (searched (goal.at.write_identifiers-requires c).After-refuted) c.if-refuted.true in
    (subst (λ (A : List ℤ). StepsNamed A (R (goal.at.write_identifiers-requires c).After-refuted)) (sym (is_against (goal.at.write_identifiers-requires c).After-write_against)) ready.0, ready.1)

pub returns-then-refuted : goal.returns-then-refuted
returns-then-refuted c =
    let identifiers = c.args.identifiers.now in
    shown_found (n (goal.at.returns-then-refuted c).After-write_against) (L (goal.at.returns-then-refuted c).After-write_against) (l (goal.at.returns-then-refuted c).After-write_against) _ identifiers _ c.requires (R (goal.at.returns-then-refuted c).After-refuted) (left (goal.at.returns-then-refuted c).After-refuted) c.refuted.result (searched (goal.at.returns-then-refuted c).After-refuted) c.if-refuted.true _
    (c.write_identifiers.ensures ∙ ap (λ (A : List ℤ). identifiers_of A (R (goal.at.returns-then-refuted c).After-refuted) ++ drop (steps_in (R (goal.at.returns-then-refuted c).After-refuted)) identifiers) (is_against (goal.at.returns-then-refuted c).After-write_against))

pub returns : goal.returns
returns c =
    open_found (n (goal.at.returns c).After-write_against) (L (goal.at.returns c).After-write_against) (l (goal.at.returns c).After-write_against) _ c.args.identifiers.now _ c.requires (R (goal.at.returns c).After-refuted) (left (goal.at.returns c).After-refuted) c.refuted.result (searched (goal.at.returns c).After-refuted) c.if-refuted.false
