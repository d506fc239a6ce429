-- How many bytes each class has, computed. Assumes nothing.
use mathlib.Core.Path.{refl}
use Rattle.command.specs.{Facts.ClassesCounted, Classes.class_of}

pub classes_counted : ClassesCounted
unfolding class_of
classes_counted = refl
