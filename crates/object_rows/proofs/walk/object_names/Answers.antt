use Rattle.std.proofs.Common.{ℕ, None, Some, List, [], ◌∷◌, ◌++◌, sym, ap, subst, ◌∙◌}
use Rattle.std.specs.Option.{option_copied}
use Rattle.object_rows.proofs.NamesWalk.{AreFirstNames, no_name, one_name_more, all_names, fewer_left, found_next, found_none}
use Rattle.object_rows.proofs.walk.object_names.Goals as goal

pub names-init : goal.names-init
names-init c =
    let rows = c.args.rows.now.rows in
    let coll = c.args.coll.now in
    subst (λ (l : List (List ℕ)). AreFirstNames rows coll l None) (sym c.new-names.ensures.items) (no_name rows coll)

pub names-smaller : goal.names-smaller
names-smaller c =
    let rows = c.args.rows.now.rows in
    let coll = c.args.coll.now in
    let name = c.in-Some.name in
    let next = found_next rows coll c.in_ok-name.field-0 (option_copied c.as_ref.result) c.names.last name c.as_ref.ensures.value c.in-Some.is
    c.in_ok-name.ensures in
    fewer_left rows coll c.names.last name c.names.invariant.named next

pub names-preserved : goal.names-preserved
names-preserved c =
    let rows = c.args.rows.now.rows in
    let coll = c.args.coll.now in
    let name = c.in-Some.name in
    let next = found_next rows coll c.in_ok-name.field-0 (option_copied c.as_ref.result) c.names.last name c.as_ref.ensures.value c.in-Some.is
    c.in_ok-name.ensures in
    let more = one_name_more rows coll c.names.names.items c.names.last name c.names.invariant next in
    subst (λ (l : List (List ℕ)). AreFirstNames rows coll l (Some name))
    (sym (c.in_ok-push.ensures.items
    ∙ ap (λ (n : List ℕ). c.names.names.items ++ n ∷ []) (c.in_ok-from_slice.ensures ∙ c.as_slice.ensures.bytes))) more

pub returns : goal.returns
returns c =
    let rows = c.args.rows.now.rows in
    let coll = c.args.coll.now in
    let past = found_none rows coll c.in_ok-name.field-0 (option_copied c.as_ref.result) c.names.last c.as_ref.ensures.value c.in_default.is
    c.in_ok-name.ensures in
    all_names rows coll c.names.names.items c.names.last c.names.invariant past
