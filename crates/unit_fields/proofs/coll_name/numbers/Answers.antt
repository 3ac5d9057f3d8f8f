use Rattle.std.proofs.Common.{◌≡◌, false, true, Some, None, ap, ◌∙◌}
use Rattle.std.specs.Result.{result_ok}
use Rattle.unit_fields.proofs.CollNames.{is_text, text_of, coll_name-utf8, split_at_dot, split_at_line, parse-pool, parse-seed}
use Rattle.unit_fields.proofs.coll_name.numbers.Goals as goal

pub returns-in_err-text : goal.returns-in_err-text
returns-in_err-text c pool seed pool_fits seed_fits is =
    let read = is_text _ _ c.from_utf8.result (rw is (coll_name-utf8 pool seed pool_fits seed_fits)) c.from_utf8.ensures.cases in
    let never : false ≡ true = c.in_err-text.ensures.variant ∙ read in
    absurd cc

pub returns-in_err-pool : goal.returns-in_err-pool
returns-in_err-pool c pool seed pool_fits seed_fits is =
    let text = text_of _ _ c.from_utf8.result c.in_ok-text.text c.from_utf8.ensures.cases c.in_ok-text.ensures.value ∙ is in
    absurd (split_at_dot pool seed pool_fits seed_fits _ None text c.in_err-pool.ensures.cases)

pub returns-in_err-seed : goal.returns-in_err-seed
returns-in_err-seed c pool seed pool_fits seed_fits is =
    let text = text_of _ _ c.from_utf8.result c.in_ok-text.text c.from_utf8.ensures.cases c.in_ok-text.ensures.value ∙ is in
    let parts = split_at_dot pool seed pool_fits seed_fits _ (Some (c.in_ok-pool.pool, c.in_ok-pool.rest)) text c.in_ok-pool.ensures.cases in
    absurd (split_at_line pool seed pool_fits seed_fits _ None parts.1 c.in_err-seed.ensures.cases)

pub returns-in_err-pool-2 : goal.returns-in_err-pool-2
returns-in_err-pool-2 c pool seed pool_fits seed_fits is =
    let text = text_of _ _ c.from_utf8.result c.in_ok-text.text c.from_utf8.ensures.cases c.in_ok-text.ensures.value ∙ is in
    let parts = split_at_dot pool seed pool_fits seed_fits _ (Some (c.in_ok-pool.pool, c.in_ok-pool.rest)) text c.in_ok-pool.ensures.cases in
    let read = parse-pool pool seed pool_fits seed_fits _ c.parse.result parts.0 c.parse.ensures.value.0 in
    let never : None ≡ Some pool = c.in_err-pool-2.ensures.value ∙ ap (λ r. result_ok r) read in
    absurd cc

pub returns-in_err-seed-2 : goal.returns-in_err-seed-2
returns-in_err-seed-2 c pool seed pool_fits seed_fits is =
    let text = text_of _ _ c.from_utf8.result c.in_ok-text.text c.from_utf8.ensures.cases c.in_ok-text.ensures.value ∙ is in
    let parts = split_at_dot pool seed pool_fits seed_fits _ (Some (c.in_ok-pool.pool, c.in_ok-pool.rest)) text c.in_ok-pool.ensures.cases in
    let seed_text = split_at_line pool seed pool_fits seed_fits _ (Some (c.in_ok-seed.seed, c.in_ok-seed._head)) parts.1 c.in_ok-seed.ensures.cases in
    let read = parse-seed pool seed pool_fits seed_fits _ c.from_str_radix.result seed_text c.from_str_radix.ensures.value in
    let never : None ≡ Some seed = c.in_err-seed-2.ensures.value ∙ ap (λ r. result_ok r) read in
    absurd cc

pub returns : goal.returns
returns c pool seed pool_fits seed_fits is =
    let text = text_of _ _ c.from_utf8.result c.in_ok-text.text c.from_utf8.ensures.cases c.in_ok-text.ensures.value ∙ is in
    let parts = split_at_dot pool seed pool_fits seed_fits _ (Some (c.in_ok-pool.pool, c.in_ok-pool.rest)) text c.in_ok-pool.ensures.cases in
    let seed_text = split_at_line pool seed pool_fits seed_fits _ (Some (c.in_ok-seed.seed, c.in_ok-seed._head)) parts.1 c.in_ok-seed.ensures.cases in
    let pool_read = parse-pool pool seed pool_fits seed_fits _ c.parse.result parts.0 c.parse.ensures.value.0 in
    let seed_read = parse-seed pool seed pool_fits seed_fits _ c.from_str_radix.result seed_text c.from_str_radix.ensures.value in
    let pool_is : Some c.in_ok-pool-2.pool ≡ Some pool = c.in_ok-pool-2.ensures.value ∙ ap (λ r. result_ok r) pool_read in
    let seed_is : Some c.in_ok-seed-2.seed ≡ Some seed = c.in_ok-seed-2.ensures.value ∙ ap (λ r. result_ok r) seed_read in
    cc
