-- A law on the list of the verdicts by what the lines show. Assumes nothing.
use Rattle.second_judge.specs.Numbers.{Among, while_reading}
use Rattle.second_judge.specs.declared.entry.Entry.{Entry}
use Rattle.second_judge.specs.declared.entry.Entry.TheVariants.{Plain, Command}

-- 20, 22 and 40 are no verdicts by what the lines show
pub none_while_reading : (entry : Entry)
    → (Among (while_reading entry) 20 → ⊥) × (Among (while_reading entry) 22 → ⊥) × (Among (while_reading entry) 40 → ⊥)
none_while_reading Plain = ((λ h. h), (λ h. h), (λ h. h))
none_while_reading Command = ((λ h. h), (λ h. h), (λ h. h))
