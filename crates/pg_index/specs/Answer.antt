-- What a run answers, by numbers.
use Rattle.std.specs.Prelude.{ℕ, Option, Some, None}
use Rattle.build_leader.specs.declared.fault.LeadFault.TheVariants as lead
use Rattle.index_stmt.specs.declared.fault.ReadStmt.{ReadStmt}
use Rattle.index_stmt.specs.declared.fault.ReadStmt.TheVariants as read
use Rattle.pg_index.specs.HeapFile.{number_of_file_cause}
use Rattle.pg_index.specs.declared.fault.Fault.{Fault}
use Rattle.pg_index.specs.declared.fault.Fault.TheVariants.{Usage, Statement, ReadFault, Heap, Duplicate, RangeWide, WriteFault, OutOfMemory}
use Rattle.pg_index.specs.declared.fault.HeapFault.{HeapFault}
use Rattle.pg_index.specs.declared.fault.HeapFault.TheVariants.{File, Lead}
use Rattle.pg_index.specs.declared.heap_file.ReadError.{ReadError}
use Rattle.pg_index.specs.declared.heap_file.ReadError.TheVariants.{Failed, Memory}

-- the status of a fault
abbrev pub status_of_fault : Fault → ℕ
status_of_fault (Usage word) = 2
status_of_fault (Statement fault) = 3
status_of_fault ReadFault = 4
status_of_fault (Heap block item cause) = 5
status_of_fault (Duplicate first second) = 6
status_of_fault (RangeWide range size) = 7
status_of_fault WriteFault = 8
status_of_fault OutOfMemory = 10

-- the status of an end: 0 where there is no fault
abbrev pub status_of : Option Fault → ℕ
status_of None = 0
status_of (Some fault) = status_of_fault fault

-- the fault of reading the statements
abbrev pub fault_of_statement : ReadStmt → Fault
fault_of_statement (read.Fault fault) = Statement fault
fault_of_statement read.Memory = OutOfMemory

-- the fault of reading a heap file
abbrev pub fault_of_read : ReadError → Fault
fault_of_read Memory = OutOfMemory
fault_of_read Failed = ReadFault

-- the fault of a heap without an index
abbrev pub fault_of_heap : HeapFault → Fault
fault_of_heap (File file) = Heap file.block 0 (number_of_file_cause file.cause)
fault_of_heap (Lead (lead.Row block item cause)) = Heap block item cause
fault_of_heap (Lead (lead.Duplicate first second)) = Duplicate first second
fault_of_heap (Lead (lead.RangeWide range size)) = RangeWide range size
fault_of_heap (Lead lead.Memory) = OutOfMemory
