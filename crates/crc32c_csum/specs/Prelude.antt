-- What other crates and the proofs cite, passed on from one place.
pub use Rattle.crc32c_csum.specs.Crc32c.{after_bit, after_byte, remainder, all_ones}
unfoldable pub use Rattle.crc32c_csum.specs.Crc32c.{after_bits, crc32c}
pub use Rattle.crc32c_csum.specs.Steps.{by_tables}
unfoldable pub use Rattle.crc32c_csum.specs.Steps.{after_zeros}
pub use Rattle.crc32c_csum.specs.Folding.{sixteen, put_on, of_first, of_put_on, of_taken}
unfoldable pub use Rattle.crc32c_csum.specs.Folding.{multiple}
