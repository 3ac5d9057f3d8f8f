use Rattle.std.proofs.Common.{◌≡◌, ◌+◌, ◌<◌, ◌≤◌, [], ◌∷◌, length, get_or, refl, ap, sym, subst, ◌∙◌, arith}
use Rattle.std.proofs.lemmas.List.{get_or_default, length-drop}
use Rattle.blob_map.specs.Prelude.{csum_of, alone}
use Rattle.extent_shards.specs.Prelude.{body_with}
use Rattle.extent_shards.proofs.Runs.{one_grows, next_of, next_grows, size_of_csums, ends_here, ends_with_all}
use Rattle.extent_shards.proofs.writing.first_run.Goals as goal

pub loop-page-init : goal.loop-page-init
loop-page-init c =
    let ps = c.args.pages.now in
    let d = c.index-pages-0-2.result in
    let some : 0 < length ps = omega arith in
    let same : get_or ps 0 c.index-pages-0.result ≡ get_or ps 0 d = get_or_default ps 0 c.index-pages-0.result d some in
    record {
      counted = omega arith;
      grows = one_grows ps (record { first = (get_or ps 0 d).0; count = 1; start = c.start_of.result }) (get_or ps 0 d).1 d some refl refl
          (subst (λ p. body_with c.start_of.result 1 (csum_of p ∷ []) ≡ alone p) (ap (λ p. p.1) same) c.start_of.ensures);
    }

pub loop-page-preserved : goal.loop-page-preserved
loop-page-preserved c =
    let ps = c.args.pages.now in
    let h = c.loop-page.head in
    let q = c.loop-page-item.result in
    let grows = c.loop-page.invariant.grows in
    let is : q ≡ get_or ps h.count q =
    next_of ps c.pages_behind-page-items.result.now h c.loop-page.page-index q c.pages_behind-page-items.ensures c.loop-page.invariant.counted c.loop-page-item.is in
    let lt : h.count < length ps =
    omega (arith, c.loop-page.invariant.counted, c.loop-page-test.true, ap length c.pages_behind-page-items.ensures, length-drop 1 ps) in
    record {
      counted = omega arith;
      grows = next_grows ps h q grows lt is (record h { count = h.count + 1 })
          (sym (c.follows.ensures _ (size_of_csums ps h grows)) ∙ c.if-not-follows.false) (λ i. record h { count = h.count + 1 });
    }

pub returns-then-not-follows : goal.returns-then-not-follows
returns-then-not-follows c =
    let ps = c.args.pages.now in
    let h = c.loop-page.head in
    let q = c.loop-page-item.result in
    let grows = c.loop-page.invariant.grows in
    let is : q ≡ get_or ps h.count q =
    next_of ps c.pages_behind-page-items.result.now h c.loop-page.page-index q c.pages_behind-page-items.ensures c.loop-page.invariant.counted c.loop-page-item.is in
    let lt : h.count < length ps =
    omega (arith, c.loop-page.invariant.counted, c.loop-page-test.true, ap length c.pages_behind-page-items.ensures, length-drop 1 ps) in
    ends_here ps h q grows lt is (sym (c.follows.ensures _ (size_of_csums ps h grows)) ∙ c.if-not-follows.true)

pub returns : goal.returns
returns c =
    let ps = c.args.pages.now in
    let h = c.loop-page.head in
    let le : length ps ≤ h.count =
    omega (arith, c.loop-page.invariant.counted, c.loop-page-test.false, ap length c.pages_behind-page-items.ensures, length-drop 1 ps) in
    ends_with_all ps h c.loop-page.invariant.grows le
