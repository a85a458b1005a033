-- `decide::refuted_by_walks` meets its contract: without a variable there is no walk; else the list is refuted at once over
use Rattle.decide.specs.Searched.{by_empty, lay_ready, at_once_ready, by_at_once, search_after, asked_after, searched_after}
use Rattle.decide.proofs.refuted_by_walks.Goals as goal

-- the steps laid, or the table says.
pub returns-then-n-eq0 : goal.returns-then-n-eq0
returns-then-n-eq0 c = by_empty _ _ _ _ c.requires.0 c.if-n-eq0.true c.requires.1

pub lay_steps-count-requires : goal.lay_steps-count-requires
lay_steps-count-requires c = lay_ready _ _ _ _ c.requires.0

pub refuted_at_once-requires : goal.refuted_at_once-requires
refuted_at_once-requires c =
    at_once_ready _ _ _ _ c.requires.0 _ _ c.lay_steps-count.ensures

pub returns-then-refuted_at_once : goal.returns-then-refuted_at_once
returns-then-refuted_at_once c =
    by_at_once _ _ _ _ c.requires.0 _ _ c.lay_steps-count.ensures _ _ _ c.refuted_at_once.ensures c.requires.1 c.if-refuted_at_once.true

pub refuted_by_table-requires : goal.refuted_by_table-requires
refuted_by_table-requires c = (
  search_after _ _ _ _ c.requires.0 _ _ c.lay_steps-count.ensures _ _ _ c.refuted_at_once.ensures c.if-refuted_at_once.false,
  asked_after _ _ _ _ c.requires.0 _ _ c.lay_steps-count.ensures _ _ _ c.refuted_at_once.ensures c.if-refuted_at_once.false,
  c.requires.1,
)

pub returns : goal.returns
returns c =
    searched_after _ _ _ _ c.requires.0 _ _ c.lay_steps-count.ensures _ _ _ c.refuted_at_once.ensures c.if-refuted_at_once.false _ _ _ c.refuted_by_table.ensures
