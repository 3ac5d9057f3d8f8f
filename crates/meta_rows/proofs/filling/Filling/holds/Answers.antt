use Rattle.std.proofs.Common.{◌≡◌, ◌∙◌, true, false, ap, sym}
use Rattle.byte_maps.specs.ByteMap.{byte_order}
use Rattle.meta_rows.proofs.FillLemmas.{has_key, held_under}
use Rattle.meta_rows.proofs.filling.Filling.holds.Goals as goal

pub returns-in-Equal-clause-yes : goal.returns-in-Equal-clause-yes
returns-in-Equal-clause-yes c = λ h.
    has_key c.args.key.now c.args.self.now.held c.in-Some.row c.in-Some.is (ap (λ b. byte_order b c.args.key.now) (sym c.as_slice.ensures) ∙ sym c.byte_order.ensures ∙ c.in-Equal.is)

pub returns-in_default : goal.returns-in_default
returns-in_default c = record {
  yes = λ h. let e : false ≡ true = h in absurd cc;
  other = λ h low. held_under c.args.key.now c.args.self.now.held c.in-Some.row c.in-Some.is
      (λ e. c.in_default.not-Equal (c.byte_order.ensures ∙ ap (λ b. byte_order b c.args.key.now) c.as_slice.ensures ∙ e)) low;
}
