-- A start stands for itself.
use Rattle.std.proofs.Common.{◌≡◌, ℕ, List, [], length, take, sym, ap, subst, ◌∙◌, arith}
use Rattle.std.proofs.lemmas.List.{take_all}
use Rattle.byte_maps.specs.Units.{IsUnits}
use Rattle.block_device.specs.Prelude.{last, IsClean, History}
use Rattle.block_device.proofs.LogLemmas.{each_cut_none}
use Rattle.block_device.proofs.RangeLemmas.{clean_image}
use Rattle.object_model.specs.Prelude.{Objects}
use Rattle.object_model.specs.declared.book.Book.{Book}
use Rattle.store_image.specs.Prelude.{StandsFor, StaysExact, IsStart, LeavesPrefix, EachCutStands}

abbrev empty_book : Book
empty_book = record { entries = []; commits = [] }

pub start_is_durable : (units : ℕ) (h : History) (objects : Objects) → IsUnits units h.start → IsUnits units (last h.start h.log)
    → IsStart (length h.log) h objects → EachCutStands (length h.log) h objects empty_book
start_is_durable units h objects whole whole_last is =
    let all : take (length h.log) h.log ≡ h.log = take_all (length h.log) h.log (omega arith) in
    let stands : StandsFor (last h.start h.log) objects = subst (λ log. StandsFor (last h.start log) objects) all is.stands in
    let clean : (k : ℕ) → IsClean h.log k = λ k. subst (λ log. IsClean log k) all (is.clean k) in
    let contents : List ℕ = last h.start (take (length h.log) h.log) in
    let same : (image : List ℕ) → image ≡ last h.start h.log → image ≡ contents
    = λ image e. e ∙ sym (ap (λ log. last h.start log) all) in
    each_cut_none h.log (LeavesPrefix (length h.log) h.start objects empty_book) (λ image crash chance. record {
      count = 0;
      within = omega arith;
      has_acked = λ i. tt;
      stands = subst (λ bytes. StandsFor bytes objects) (sym (clean_image h.start h.log image units whole_last (whole_last ∙ sym whole) clean crash)) stands;
      exact = subst (λ bytes. StaysExact contents bytes) (sym (same image (clean_image h.start h.log image units whole_last (whole_last ∙ sym whole) clean crash))) (λ is. is);
    })
