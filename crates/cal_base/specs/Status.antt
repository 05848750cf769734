-- the numbers of the statuses
use Rattle.std.specs.Prelude.{ℕ}
use Rattle.cal_base.specs.declared.status.Status.{Status}
use Rattle.cal_base.specs.declared.status.Status.TheVariants.{Done, Usage, BadDatabase, BadSystem, GapNotClosed, Rejected, ReadFault, WriteFault, TooLong, Memory}

abbrev pub number_of : Status → ℕ
number_of Done = 0
number_of Usage = 1
number_of BadDatabase = 2
number_of BadSystem = 3
number_of GapNotClosed = 4
number_of Rejected = 5
number_of ReadFault = 6
number_of WriteFault = 7
number_of TooLong = 8
number_of Memory = 9
