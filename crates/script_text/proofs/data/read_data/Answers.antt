use Rattle.script_text.proofs.DataWords.{hex_read, fill_behind, data_filled}
use Rattle.script_text.proofs.data.read_data.Goals as goal

pub returns-in-Some : goal.returns-in-Some
returns-in-Some c = hex_read c.args.word.now c.in-Some.digits.now c.read_hex.result c.in-Some.ensures c.read_hex.ensures

pub returns-in_default-read_fill : goal.returns-in_default-read_fill
returns-in_default-read_fill c same bytes is =
    let of = fill_behind c.args.word.now c.in-Some-split_front.text.now bytes c.in-Some-split_front.ensures is in
    c.in_default-read_fill.ensures of.byte of.count of.fill

pub returns : goal.returns
returns c =
    data_filled c.args.word.now c.in-Some-split_front.text.now c.in-Some-read_fill.byte c.in-Some-read_fill.count c.fill.result c.in-Some-split_front.ensures
    c.in-Some-read_fill.ensures c.fill.ensures
