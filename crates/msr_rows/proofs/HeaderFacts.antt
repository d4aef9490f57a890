-- Bytes have one header, or one fault.
use Rattle.std.proofs.Common.{◌≡◌, ℕ, List, Ok, Err}
use Rattle.msr_header.specs.Reading.{header_of}
use Rattle.msr_header.specs.declared.header.Header.{Header}
use Rattle.msr_header.specs.declared.fault.HeaderFault.{HeaderFault}

pub one_header : (bytes : List ℕ) (g h : Header) → header_of bytes ≡ Ok g → header_of bytes ≡ Ok h → g ≡ h
one_header bytes g h p q = cc

pub not_both : (bytes : List ℕ) (h : Header) (fault : HeaderFault) → header_of bytes ≡ Ok h
    → header_of bytes ≡ Err fault → ⊥
not_both bytes h fault p q = cc
