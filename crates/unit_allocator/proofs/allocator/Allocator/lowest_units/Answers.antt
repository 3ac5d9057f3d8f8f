use Rattle.std.proofs.Common.{◌≡◌, ◌+◌, ◌++◌, List, [], ◌∷◌, ℕ, length, sym, ap, subst, ◌∙◌, arith}
use Rattle.std.proofs.lemmas.List.{append-nil, length-append}
use Rattle.unit_allocator.specs.Prelude.{free_units}
use Rattle.unit_allocator.proofs.Lowest.{free_behind, all_behind_low, next_free, none_free, found_more}
use Rattle.unit_allocator.proofs.allocator.Allocator.lowest_units.Goals as goal

pub loop-init : goal.loop-init
loop-init c = record {
  found = subst (λ s. free_units s ≡ free_behind s c.self.inside.low) c.self.view_is (all_behind_low c.self.invariant.sound)
      ∙ ap (λ (us : List ℕ). us ++ free_behind c.args.self.now c.self.inside.low) (sym c.in-Ok.ensures.items);
  counted = ap length c.in-Ok.ensures.items;
  room = omega (arith, c.in-Ok.ensures.exact);
}

pub loop-preserved : goal.loop-preserved
loop-preserved c =
    let next = subst (λ s. free_behind s c.loop.from ≡ (c.self.inside.first + c.in-Some.at) ∷ free_behind s (c.in-Some.at + 1)) c.self.view_is
    (next_free c.self.invariant.sound c.loop.from c.in-Some.at c.in-Some.ensures) in
    let more = c.push_reserved.ensures.items ∙ ap (λ (u : ℕ). c.loop.units.items ++ u ∷ []) c.new.ensures in
    record {
      found = found_more (free_units c.args.self.now) c.loop.units.items c.push_reserved.new.self.items (c.self.inside.first + c.in-Some.at)
          (free_behind c.args.self.now c.loop.from) (free_behind c.args.self.now (c.in-Some.at + 1)) c.loop.invariant.found next more;
      counted = ap length more ∙ length-append c.loop.units.items ((c.self.inside.first + c.in-Some.at) ∷ [])
          ∙ ap (λ n. n + 1) c.loop.invariant.counted;
      room = omega (arith, c.loop.invariant.room, c.push_reserved.ensures.capacity);
    }

pub unreachable-requires : goal.unreachable-requires
unreachable-requires c =
    let gone = subst (λ s. free_behind s c.loop.from ≡ []) c.self.view_is (none_free c.self.invariant.sound c.loop.from c.in-None.ensures) in
    let all = c.loop.invariant.found ∙ ap (λ (us : List ℕ). c.loop.units.items ++ us) gone ∙ append-nil c.loop.units.items in
    omega (arith, ap length all, c.loop.invariant.counted, c.loop-test.true, c.free_count-count.ensures, c.if-count-n.false)
