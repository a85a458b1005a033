-- The laws of a loop that tries one number after the other, as one set: a function with such a loop names it in its attribute.
use Rattle.integers.specs.Lowest.{searched_none, searched_more, searched_found, searched_all}

pub ruleset searching = (searched_none, searched_more, searched_found, searched_all)
