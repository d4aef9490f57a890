-- How lines tell a fault of a file.
use Rattle.std.specs.Prelude.{ℕ, List, [], ◌++◌, codes, Option, None, Some}
use Rattle.std.specs.Fmt.{decimal}
use Rattle.msr_header.specs.declared.fault.HeaderFault.TheVariants.{Truncated, NotARecord, BadTime, BadChain, OtherBlockette, TwiceBlockette, NoBlockette1000, BadExponent, BadOrder, RecordCut, ChainPastRecord}
use Rattle.msr_rows.specs.declared.fault.FaultKind.{FaultKind}
use Rattle.msr_rows.specs.declared.fault.FaultKind.TheVariants as kind
use Rattle.msr_input.specs.declared.fault.Fault.{Fault}
use Rattle.msr_input.specs.declared.fault.ReadFault.{ReadFault}
use Rattle.msr_input.specs.declared.fault.ReadFault.TheVariants as stop

-- the number of a refusal and its name; want of memory is none, and has 0
abbrev pub fault_row : FaultKind → ℕ × List ℕ
fault_row (kind.Header Truncated) = (1, codes "Truncated")
fault_row (kind.Header NotARecord) = (2, codes "NotARecord")
fault_row (kind.Header BadTime) = (3, codes "BadTime")
fault_row (kind.Header BadChain) = (4, codes "BadChain")
fault_row (kind.Header (OtherBlockette blockette)) = (5, codes "OtherBlockette")
fault_row (kind.Header (TwiceBlockette blockette)) = (6, codes "TwiceBlockette")
fault_row (kind.Header NoBlockette1000) = (7, codes "NoBlockette1000")
fault_row (kind.Header BadExponent) = (8, codes "BadExponent")
fault_row (kind.Header BadOrder) = (9, codes "BadOrder")
fault_row (kind.Header RecordCut) = (10, codes "RecordCut")
fault_row (kind.Header ChainPastRecord) = (11, codes "ChainPastRecord")
fault_row kind.DataShort = (12, codes "DataShort")
fault_row (kind.BadCode word) = (13, codes "BadCode")
fault_row kind.NoRate = (14, codes "NoRate")
fault_row (kind.OtherEncoding encoding) = (15, codes "OtherEncoding")
fault_row kind.BadDataOffset = (16, codes "BadDataOffset")
fault_row kind.TimeRange = (17, codes "TimeRange")
fault_row kind.ReverseMismatch = (18, codes "ReverseMismatch")
fault_row kind.Memory = (0, codes "Memory")

abbrev pub fault_number : FaultKind → ℕ
fault_number kind = (fault_row kind).0

abbrev pub fault_name : FaultKind → List ℕ
fault_name kind = (fault_row kind).1

-- what is named with it: the type of a blockette, the number of a word, an encoding
abbrev pub fault_value : FaultKind → Option ℕ
fault_value (kind.Header (OtherBlockette blockette)) = Some blockette
fault_value (kind.Header (TwiceBlockette blockette)) = Some blockette
fault_value (kind.BadCode word) = Some word
fault_value (kind.OtherEncoding encoding) = Some encoding
fault_value _ = None

abbrev pub value_text : Option ℕ → List ℕ
value_text None = []
value_text (Some value) = codes " " ++ decimal value

-- number, name and value of a refusal
abbrev pub numbered_text : FaultKind → List ℕ
numbered_text kind = decimal (fault_number kind) ++ (codes " " ++ (fault_name kind ++ value_text (fault_value kind)))

-- a fault of a file in words
abbrev pub read_fault_text : ReadFault → List ℕ
read_fault_text (stop.Input fault) = codes "offset " ++ (decimal fault.offset ++ (codes ": " ++ numbered_text fault.kind))
read_fault_text stop.Read = codes "read fault"
read_fault_text stop.Memory = codes "out of memory"

abbrev pub value_json : Option ℕ → List ℕ
value_json None = []
value_json (Some value) = codes ",\"value\":" ++ decimal value

-- the members of JSON that tell a refusal of a record
abbrev pub fault_json : Fault → List ℕ
fault_json fault =
    codes ",\"offset\":" ++ (decimal fault.offset ++ (codes ",\"number\":" ++ (decimal (fault_number fault.kind)
    ++ (codes ",\"name\":\"" ++ (fault_name fault.kind ++ (codes "\"" ++ value_json (fault_value fault.kind)))))))
