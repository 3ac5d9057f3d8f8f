use Rattle.bitmap_freelist.proofs.Reading.{all_places_on, same_number}
use Rattle.bitmap_freelist.proofs.marks.insert_row.Goals as goal

pub returns : goal.returns
returns c =
    let is = same_number c.requires.row c.in-Some.row c.row_number.result (c.row_number.ensures c.requires.row c.requires.below c.requires.key_is)
    c.in-Some.is in
    all_places_on c.requires.row c.in-Some.row c.args.key.now c.args.value.now c.args.units.now c.insert_marked.new.units c.insert_marked.result
    c.requires.below c.requires.key_is is c.insert_marked.ensures
