mod Unknown
