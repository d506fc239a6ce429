-- The rules that a proof searches with where a definition goes by tests. Assumes nothing.
use borrow.Author.Tests.{eq-eqb, ne_eqb}

pub ruleset tests = (eq-eqb, ne_eqb)
