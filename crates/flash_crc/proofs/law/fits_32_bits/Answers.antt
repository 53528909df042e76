use Rattle.flash_crc.proofs.Bounds.{crc32c_fits}
use Rattle.flash_crc.proofs.law.fits_32_bits.Goals as goal

pub returns : goal.returns
returns c = crc32c_fits
