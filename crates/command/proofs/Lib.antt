-- Why it holds.
mod Facts
mod TableLaw
