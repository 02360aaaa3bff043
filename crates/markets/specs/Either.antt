-- The model of one of two is the model of that one.
use Rattle.either.specs.declared.Either.{Either}
use Rattle.either.specs.declared.Either.TheVariants.{Left, Right}

abbrev pub by_cases : {A B X : Type 0} → (A → X) → (B → X) → Either A B → X
by_cases f g (Left a) = f a
by_cases f g (Right b) = g b
