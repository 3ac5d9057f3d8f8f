use Rattle.std.proofs.Common.{◌++◌, ◌∙◌}
use Rattle.fsck_check.specs.Checking.{found_units}
use Rattle.fsck_check.proofs.checking.pages_and_units.Goals as goal

pub returns-clause-found : goal.returns-clause-found
returns-clause-found g c =
    let sums = c.in_ok-sums.ensures.sums in
    let units = c.in_ok-units.units in
    record {
      good = c.requires.good;
      pages = sums.0;
      are_pages = sums.1;
      units = record { leaked = units.leaked.items; unmarked = units.unmarked.items; doubled = units.doubled.items; counts = units.counts.items };
      are_units = record {
        are_leaked = c.in_ok-units.ensures.leaked;
        are_unmarked = c.in_ok-units.ensures.unmarked;
        are_doubled = c.in_ok-units.ensures.doubled;
        are_counts = c.in_ok-units.ensures.counts.lists;
        others = c.in_ok-units.ensures.others;
        right = c.in_ok-units.ensures.counts.right;
      };
      is = c.in_ok-push_units.ensures
          ∙ (λ i. (c.into_vec-found.ensures ∙ sums.2) i ++ found_units units.leaked.items units.unmarked.items units.doubled.items units.counts.items);
    }
