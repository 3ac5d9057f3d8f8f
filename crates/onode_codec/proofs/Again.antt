-- What was written is read again.
use Rattle.std.proofs.Common.{◌≡◌, ◌≢◌, ℕ, List, length, Option, Some, None, MatchOption, sym, ap, ◌∙◌}
use Rattle.std.specs.Int.{w64, from_le_bytes}
use Rattle.std.proofs.lemmas.Nat.{from_le_bytes-to_le_bytes_8}
use Rattle.unit_fields.specs.declared.width.Width.{Width}
use Rattle.row_format.specs.Prelude.{Extent}
use Rattle.row_format.proofs.Prelude.{extents-same}
use Rattle.onode_codec.specs.declared.onode.Onode.{Onode}
use Rattle.onode_codec.specs.Reading.{SpellsOnode, SpellExtents}

pub same_onode : (bytes : List ℕ) (size other : ℕ) → SpellsOnode bytes size → SpellsOnode bytes other → size ≡ other
same_onode bytes size other p q =
    sym (from_le_bytes-to_le_bytes_8 size p.below) ∙ ap (from_le_bytes w64) (sym p.spelled ∙ q.spelled) ∙ from_le_bytes-to_le_bytes_8 other q.below

pub same_extents : (w : Width) (bytes : List ℕ) (es fs : List Extent) → SpellExtents w bytes es → SpellExtents w bytes fs → es ≡ fs
same_extents w bytes es fs p q = extents-same w es fs p.fit q.fit (sym p.spelled ∙ q.spelled)

-- a row's onode, as `Onode::decode` answers it
pub onode_again : (bytes : List ℕ) (size : ℕ) (found : Option Onode)
    → MatchOption found (length bytes ≢ 8) (λ onode. SpellsOnode bytes onode.size) → SpellsOnode bytes size → found ≡ Some (record { size = size })
onode_again bytes size None found is = absurd (found (ap length is.spelled))
onode_again bytes size (Some onode) found is = ap (λ (n : ℕ). Some (record { size = n })) (same_onode bytes onode.size size found is)

-- a shard's extents, as `decode_extents` answers them, in whatever holds the list
pub extents_again : (w : Width) {V : Type 0} (items : V → List Extent) (bytes : List ℕ) (es : List Extent) (found : Option V)
    → MatchOption found ((fs : List Extent) → ¬ (SpellExtents w bytes fs)) (λ v. SpellExtents w bytes (items v)) → SpellExtents w bytes es
    → MatchOption found ⊥ (λ v. items v ≡ es)
extents_again w items bytes es None found is = found es is
extents_again w items bytes es (Some v) found is = same_extents w bytes (items v) es found is
