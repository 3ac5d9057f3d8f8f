use Rattle.ordered_lists.proofs.Joining.{same_numbers}
use Rattle.ordered_lists.proofs.laws.the_same_numbers_make_one_list.Goals as goal

pub returns : goal.returns
returns c = same_numbers
