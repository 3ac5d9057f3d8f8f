-- What holds of a value where it is given.
use Rattle.std.proofs.Common.{Result, Ok, Err, IfOk}

pub all_ok : {A E : Type 0} (P Q : A → Type 0) (r : Result A E) → ((a : A) → P a → Q a) → IfOk r P → IfOk r Q
all_ok P Q (Ok a) f p = f a p
all_ok P Q (Err e) f p = tt
