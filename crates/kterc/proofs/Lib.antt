mod Look
