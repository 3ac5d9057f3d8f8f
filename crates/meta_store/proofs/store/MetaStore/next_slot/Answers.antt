use Rattle.std.proofs.Common.{◌∙◌, ap, length}
use Rattle.meta_log.specs.Prelude.{super_bytes, next_super}
use Rattle.meta_log.proofs.SlotLemmas.{length-super_bytes}
use Rattle.meta_store.specs.Store.{Meta}
use Rattle.meta_store.proofs.store.MetaStore.next_slot.Goals as goal

pub returns-clause-bytes : goal.returns-clause-bytes
returns-clause-bytes c =
    c.in_ok-bytes.ensures ∙ ap super_bytes c.next.ensures ∙ ap (λ (m : Meta). super_bytes (next_super m.sup m.number)) c.self.view_is

pub returns-clause-size : goal.returns-clause-size
returns-clause-size c = ap length c.in_ok-bytes.ensures ∙ length-super_bytes c.next.result
