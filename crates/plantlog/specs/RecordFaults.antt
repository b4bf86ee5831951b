-- The number and the layer of each refusal of a record.
use Rattle.std.specs.Prelude.{ℕ}
use Rattle.edetector.specs.Tables.{value_number}
use Rattle.plantlog.specs.declared.fault.FrontFault.{FrontFault}
use Rattle.plantlog.specs.declared.fault.FrontFault.TheVariants.{NoneLeft, LengthByte, Truncated}
use Rattle.plantlog.specs.declared.fault.RecordFault.{RecordFault}
use Rattle.plantlog.specs.declared.fault.RecordFault.TheVariants.{Front, Value, Number, ReceiveBuffer, UnknownKind, UnknownChoice, LeftOver, WrongCall, WriteBuffer}
use Rattle.plantlog.specs.declared.fault.Layer.{Layer}
use Rattle.plantlog.specs.declared.fault.Layer.TheVariants.{Value as ValueLayer, Number as NumberLayer, Record as RecordLayer}
use Rattle.plantlog.specs.NumberFaults.{number_fault_number}

abbrev pub front_fault_number : FrontFault → ℕ
front_fault_number NoneLeft = 45
front_fault_number LengthByte = 21
front_fault_number Truncated = 22

abbrev pub record_fault_number : RecordFault → ℕ
record_fault_number (Front cause) = front_fault_number cause
record_fault_number (Value cause) = value_number cause
record_fault_number (Number cause) = number_fault_number cause
record_fault_number ReceiveBuffer = 27
record_fault_number UnknownKind = 23
record_fault_number UnknownChoice = 25
record_fault_number LeftOver = 24
record_fault_number WrongCall = 28
record_fault_number WriteBuffer = 26

abbrev pub record_fault_layer : RecordFault → Layer
record_fault_layer (Value cause) = ValueLayer
record_fault_layer (Number cause) = NumberLayer
record_fault_layer _ = RecordLayer
