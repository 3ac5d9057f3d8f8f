use Rattle.std.proofs.Common.{◌≡◌, true}
use Rattle.selections.proofs.Order.{each_is, fold_alike}
use Rattle.selections.proofs.laws.order_between_names.Goals as goal

pub returns : goal.returns
returns c = λ on f inv named kept commute s xs ys first alike. fold_alike on f (λ t. inv t ≡ true) (λ x. Unit {0}) (λ t x is. kept t x)
    (λ t x y is other. commute t x y) named s xs ys (each_is (λ x. Unit {0}) (λ x. tt) xs) (each_is (λ x. Unit {0}) (λ x. tt) ys) first alike
