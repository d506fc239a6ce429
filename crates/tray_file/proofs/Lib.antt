-- What the proofs of several functions use, and what holds of files that are longer than their room.
mod TextLaws
mod LineLaws
mod MadeLaws
mod ReadingLaws
mod NumberLaws
mod LongState
mod LongExpected
