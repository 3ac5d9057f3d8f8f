use Rattle.store_image.proofs.laws.good_rows_have_no_bad_one.Goals as goal

pub returns : goal.returns
returns c s rows good key bad = bad.is_not_good (good key bad.value bad.stands)
