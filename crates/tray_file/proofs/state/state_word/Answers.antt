use Rattle.tray_file.proofs.state.state_word.Goals as goal

pub returns-in-Vacant : goal.returns-in-Vacant
returns-in-Vacant c = rw c.in-Vacant.is

pub returns-in-Unjudged : goal.returns-in-Unjudged
returns-in-Unjudged c = rw c.in-Unjudged.is

pub returns-in-Passed : goal.returns-in-Passed
returns-in-Passed c = rw c.in-Passed.is

pub returns-in-Failed : goal.returns-in-Failed
returns-in-Failed c = rw c.in-Failed.is
