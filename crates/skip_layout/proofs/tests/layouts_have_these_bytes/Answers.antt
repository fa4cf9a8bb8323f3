use Rattle.std.proofs.Common.{arith}
use Rattle.skip_layout.proofs.tests.layouts_have_these_bytes.Goals as goal

pub is_laid_out-requires-2-clause-fits : goal.is_laid_out-requires-2-clause-fits
is_laid_out-requires-2-clause-fits g c = (record { low = omega arith; high = omega arith; key_fits = omega arith; value_fits = omega arith }, tt)

pub is_laid_out-requires-2-clause-size : goal.is_laid_out-requires-2-clause-size
is_laid_out-requires-2-clause-size g c = omega arith

pub is_laid_out-requires-3-clause-fits : goal.is_laid_out-requires-3-clause-fits
is_laid_out-requires-3-clause-fits g c = (record { low = omega arith; high = omega arith; key_fits = omega arith; value_fits = omega arith }, (record { low = omega arith; high = omega arith; key_fits = omega arith; value_fits = omega arith }, tt))

pub is_laid_out-requires-3-clause-size : goal.is_laid_out-requires-3-clause-size
is_laid_out-requires-3-clause-size g c = omega arith

pub is_laid_out-requires-4-clause-fits : goal.is_laid_out-requires-4-clause-fits
is_laid_out-requires-4-clause-fits g c = (record { low = omega arith; high = omega arith; key_fits = omega arith; value_fits = omega arith }, (record { low = omega arith; high = omega arith; key_fits = omega arith; value_fits = omega arith }, (record { low = omega arith; high = omega arith; key_fits = omega arith; value_fits = omega arith }, (record { low = omega arith; high = omega arith; key_fits = omega arith; value_fits = omega arith }, tt))))

pub is_laid_out-requires-4-clause-size : goal.is_laid_out-requires-4-clause-size
is_laid_out-requires-4-clause-size g c = omega arith
