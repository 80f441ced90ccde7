-- An error of a callee, as the reason why no bundle is made.
use Rattle.depot_base.specs.declared.fault.DecodeError.{DecodeError}
use Rattle.depot_base.specs.declared.fault.DecodeError.TheVariants as decode
use Rattle.depot_model.specs.declared.bundle.VoucherError.{VoucherError}
use Rattle.depot_model.specs.declared.bundle.VoucherError.TheVariants as refused
use Rattle.depot_gossip.specs.declared.bundle_error.BundleError.{BundleError}
use Rattle.depot_gossip.specs.declared.bundle_error.BundleError.TheVariants as error

abbrev pub from_decoding : DecodeError → BundleError
from_decoding decode.Memory = error.Memory
from_decoding (decode.IllFormed at) = error.IllFormed at

abbrev pub from_vouching : VoucherError → BundleError
from_vouching refused.Memory = error.Memory
from_vouching refused.Disk = error.Disk
from_vouching refused.Stopped = error.Stopped
from_vouching (refused.Full what) = error.Full what
from_vouching (refused.Spent n) = error.Spent n
