-- Bits of a list of words of 64 bits.
use Rattle.std.specs.Prelude.{◌≡◌, ℕ, ◌*◌, ◌/◌, ◌%◌, ◌==◌, ◌<◌, ◌≤◌, ◌^◌, Bool, true, false, not, List, length, slice_index}
use Rattle.std.specs.Int.{bit_at}

-- the bit of a number: of word number / 64, counted from the lowest; past the words there is none
abbrev pub bit : List ℕ → ℕ → Bool
bit words i = bit_at (slice_index words (i / 64)) (i % 64) == 1

-- no bit is set from `from` on and before `end`
abbrev pub HasNoBitBetween : List ℕ → ℕ → ℕ → Type 0
HasNoBitBetween words from end = (q : ℕ) → from ≤ q → q < end → bit words q ≡ false

-- no bit is set from `from` on
abbrev pub HasNoBitFrom : List ℕ → ℕ → Type 0
HasNoBitFrom words from = (q : ℕ) → from ≤ q → bit words q ≡ false

-- of the bits from `from` on, `at` is the first that is set
pub record IsFirstBitFrom (words : List ℕ) (from at : ℕ) : Type 0 where
  pub not_before : from ≤ at
  pub within : at < 64 * length words
  pub is_set : bit words at ≡ true
  pub none_between : HasNoBitBetween words from at

-- the summary has a bit for each word that isn't zero
pub record IsSummary (words summary : List ℕ) : Type 0 where
  pub marks : (w : ℕ) → bit summary w ≡ not (slice_index words w == 0)
  pub room : length words ≤ 64 * length summary
  pub few : length words < 2 ^ 32
  pub few_above : length summary < 2 ^ 32
