-- The nine record lengths.
use Rattle.std.proofs.Common.{◌≡◌, ◌≤◌, ◌+◌, ◌-◌, ◌^◌, ◌∙◌, ap, ℕ, zero, suc, arith}
use Rattle.msr_base.specs.RecordLength.{IsRecordLength}

by_number : (bytes k : ℕ) → k ≤ 8 → bytes ≡ 2 ^ (8 + k) → (bytes ≡ 256 → ⊥) → (bytes ≡ 512 → ⊥)
    → (bytes ≡ 1024 → ⊥) → (bytes ≡ 2048 → ⊥) →
    (bytes ≡ 4096 → ⊥) → (bytes ≡ 8192 → ⊥) → (bytes ≡ 16384 → ⊥) → (bytes ≡ 32768 → ⊥) → (bytes ≡ 65536 → ⊥) → ⊥
by_number bytes zero h e p q r s t u v w x = p e
by_number bytes (suc zero) h e p q r s t u v w x = q e
by_number bytes (suc (suc zero)) h e p q r s t u v w x = r e
by_number bytes (suc (suc (suc zero))) h e p q r s t u v w x = s e
by_number bytes (suc (suc (suc (suc zero)))) h e p q r s t u v w x = t e
by_number bytes (suc (suc (suc (suc (suc zero))))) h e p q r s t u v w x = u e
by_number bytes (suc (suc (suc (suc (suc (suc zero)))))) h e p q r s t u v w x = v e
by_number bytes (suc (suc (suc (suc (suc (suc (suc zero))))))) h e p q r s t u v w x = w e
by_number bytes (suc (suc (suc (suc (suc (suc (suc (suc zero)))))))) h e p q r s t u v w x = x e
by_number bytes (suc (suc (suc (suc (suc (suc (suc (suc (suc k))))))))) h e p q r s t u v w x = absurd (omega arith)

pub no_record_length : (bytes : ℕ) → IsRecordLength bytes → (bytes ≡ 256 → ⊥) → (bytes ≡ 512 → ⊥)
    → (bytes ≡ 1024 → ⊥) → (bytes ≡ 2048 → ⊥) →
    (bytes ≡ 4096 → ⊥) → (bytes ≡ 8192 → ⊥) → (bytes ≡ 16384 → ⊥) → (bytes ≡ 32768 → ⊥) → (bytes ≡ 65536 → ⊥) → ⊥
no_record_length bytes is =
    let low = is.least in
    let high = is.most in
    let same : is.exponent ≡ 8 + (is.exponent - 8) = omega arith in
    by_number bytes (is.exponent - 8) (omega arith) (is.power ∙ ap (λ e. 2 ^ e) same)
